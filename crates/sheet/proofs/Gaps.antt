-- No command is found at a place exactly where the byte names none, or the input ends.
use Prim.Native.Nat.{ℕ, suc, ◌+◌, ◌<◌}
use mathlib.Core.Path.{◌≡◌, refl}
use mathlib.Core.Bool.{Bool, true, false}
use mathlib.Core.List.{List}
use mathlib.Core.Option.{Option, none, some}
use native.Mathlib.Omega.{arith}
use borrow.Author.Tests.{ltb-true, ltb-false, leb-false}
use lib.Dec.{ltb, leb}
use lib.ListN.{length, get_or}
use Rattle.model.specs.Refusal.{Refusal, no_command, cut_short}
use Rattle.model.specs.Command.{Row, table, row_of, total, refused, found_whole, found_row, found_byte, command_at}
use Rattle.sheet.specs.ReadToEnd.{Missing, no_row, no_byte, cut}
use Rattle.commands.proofs.Decoding as decoding

module _ (s : List ℕ) (p : ℕ) where
  pub is-refused_there : {f : Refusal} {q : ℕ} → Missing s p f q → command_at s p ≡ refused f q
  is-refused_there (no_row h e) = decoding.no-row s p h e
  is-refused_there (no_byte h) = decoding.past_the_end s p h
  is-refused_there (cut {r = r} h e l) = decoding.cut s p h (record { row = r; is = e; takes = refl }) l

  module _ {f : Refusal} {q : ℕ} where
    missing-whole : (r : Row) → p < length s → row_of (get_or s p 0) table ≡ some r → (b : Bool) → leb (suc p + total r.widths) (length s) ≡ b
        → found_whole b s p r ≡ refused f q → Missing s p f q
    unfolding found_whole
    missing-whole r h e true l g = let z : ◌≡◌ {A = ℕ} 0 1 = cc in absurd (omega arith)
    missing-whole r h e false l g =
        let a : cut_short ≡ f = cc in
        let b : p ≡ q = cc in
        rw (← a, ← b) (cut h e (leb-false _ _ l))

    missing-row : p < length s → (o : Option Row) → row_of (get_or s p 0) table ≡ o → found_row s p o ≡ refused f q → Missing s p f q
    unfolding found_row
    missing-row h none e g =
        let a : no_command ≡ f = cc in
        let b : p ≡ q = cc in
        rw (← a, ← b) (no_row h e)
    missing-row h (some r) e g = missing-whole r h e (leb (suc p + total r.widths) (length s)) refl g

    missing-byte : (b : Bool) → ltb p (length s) ≡ b → found_byte b s p ≡ refused f q → Missing s p f q
    unfolding found_byte
    missing-byte true h g = missing-row (ltb-true p (length s) h) (row_of (get_or s p 0) table) refl g
    missing-byte false h g =
        let a : cut_short ≡ f = cc in
        let b : length s ≡ q = cc in
        rw (← a, ← b) (no_byte (ltb-false p (length s) h))

    pub is-missing : command_at s p ≡ refused f q → Missing s p f q
    unfolding command_at
    is-missing e = missing-byte (ltb p (length s)) refl e
