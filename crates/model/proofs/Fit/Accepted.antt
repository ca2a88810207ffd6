-- An accepted sheet is well formed, and so is every machine that its run reaches.
use Prim.Native.Nat.{ℕ, suc, ◌+◌}
use mathlib.Core.Path.{◌≡◌, refl, sym, subst}
use mathlib.Core.Bool.{Bool, true, false}
use mathlib.Core.List.{List, [], ◌∷◌}
use mathlib.Core.Option.{some}
use native.Mathlib.Omega.{arith}
use lib.Dec.{eqb}
use lib.ListN.{length, get_or}
use Rattle.model.specs.Command.{Command, Row, table, row_by, row_of, operand}
use Rattle.model.specs.Sheet.{Sheet, accepted, verdict, commands_from, declared, sheet_of}
use Rattle.model.specs.Machine.{run}
use Rattle.model.specs.Start.{start_machine}
use Rattle.model.proofs.Lists.{impossible}
use Rattle.model.proofs.Fit.Sheet.{SheetFit}
use Rattle.model.proofs.Fit.Machine.{Fit}
use Rattle.model.proofs.Fit.Reading.{FoundAt, good}
use Rattle.model.proofs.Fit.Declared.{EightValues}
use Rattle.model.proofs.Fit.Walk.{walk}
use Rattle.model.proofs.Fit.Tick.{after-ticks_fit, run_fit}
use Rattle.model.proofs.History.Steps.{state_after}
use Rattle.model.proofs.Fit.Start.{start_fit}

-- THE TABLE'S ROWS
abbrev pub EachRow : (Row → Type 0) → List Row → Type 0
EachRow Q [] = Unit {0}
EachRow Q (r ∷ l) = Q r × EachRow Q l

-- what holds of each row holds of the one that a byte names
pub row-each : (Q : Row → Type 0) (b : ℕ) (rows : List Row) → EachRow Q rows → (r : Row) → row_of b rows ≡ some r → Q r
unfolding row_of
row-each Q b [] f r e = impossible (cc)
row-each Q b (x ∷ rows) f r e = go (eqb b x.byte) e (row-each Q b rows f.1 r)
  where
    go : (t : Bool) → row_by t x (row_of b rows) ≡ some r → (row_of b rows ≡ some r → Q r) → Q r
    go true e on = let s : x ≡ r = cc in subst Q s f.0
    go false e on = on e

eight-rows : EachRow (λ (r : Row). (o : ℕ → ℕ) → EightValues (r.command o)) table
unfolding table
eight-rows = (
  λ o. tt,
  (λ o. refl, (λ o. tt, (λ o. tt, (λ o. tt, (λ o. tt, (λ o. tt, (λ o. tt, (λ o. tt, (λ o. tt, (λ o. tt, (λ o. tt, (λ o. tt, (λ o. tt, tt))))))))))))),
)

pub eight : (sheet : List ℕ) (place : ℕ) (c : Command) (next : ℕ) → FoundAt sheet place c next → EightValues c
eight sheet place c next f =
    subst EightValues (sym f.command)
    (row-each (λ (r : Row). (o : ℕ → ℕ) → EightValues (r.command o)) (get_or sheet place 0) table eight-rows f.row f.byte
    (λ n. operand sheet (suc place) f.row.widths n))

-- THE SHEET
pub accepted_fit : (bytes : List ℕ) → verdict bytes ≡ accepted → SheetFit (sheet_of bytes)
unfolding sheet_of
accepted_fit bytes e =
    let f = walk (λ c w. w) (good bytes EightValues (eight bytes) e) in
    let s : Sheet = (declared (commands_from (length bytes) bytes 0)).sheet in
    let words : 0 + length s.words ≡ length s.words = omega arith in
    let blocks : 0 + length s.blocks ≡ length s.blocks = omega arith in
    record {
      words = omega (arith, f.words (omega arith));
      blocks = omega (arith, f.blocks (omega arith));
      version = λ b h. (f.block b h).version;
      values = λ b h. (f.block b h).values;
      some_body = f.section.some_body;
      bodies = omega (arith, f.bodies (omega arith));
      body = λ p h. rw (words, blocks) at (f.body p h);
      commands = omega (arith, f.commands (omega arith));
      most_releases = omega (arith, f.releases (omega arith));
      releases = record { task = λ i h. omega (arith, f.released.task i h); rising = f.released.rising; later = λ i h. omega arith };
    }

-- EVERY MACHINE OF THE RUN
module _ (bytes : List ℕ) (e : verdict bytes ≡ accepted) where
  -- after any number of ticks
  pub every_fit : (n : ℕ) → Fit (sheet_of bytes) (state_after (start_machine (sheet_of bytes)) n)
  every_fit n = let c = accepted_fit bytes e in after-ticks_fit c n (start_fit c)

  -- at the end
  pub final_fit : (limit : ℕ) → Fit (sheet_of bytes) (run limit (start_machine (sheet_of bytes)))
  final_fit limit = let c = accepted_fit bytes e in run_fit c limit (start_fit c)
