-- What stands where releases are read: the next release, that it lies within the sheet, and that each one that comes leaves less to come.
use Rattle.std.proofs.Common.{◌≡◌, ℕ, suc, ◌+◌, ◌-◌, ◌*◌, ◌<◌, ◌≤◌, Bool, true, false, eqb, ltb, leb, List, length, get_or, sym, refl, ◌∙◌, arith, leb-true}
use mathlib.Core.Option.{none, some}
use mathlib.Core.Option as Found
use Rattle.std.specs.Prelude.{Option, Some, None}
use Rattle.model.specs.Command as M
use Rattle.arrivals.specs.Releases.{pending_at, due_by, coming_of, coming_by}
use Rattle.arrivals.specs.declared.releases.Pending.{Pending}
use Rattle.arrivals.specs.declared.releases.Coming.{Coming}
use Rattle.arrivals.specs.declared.releases.Coming.TheVariants.{Due}

-- a command found lies within the sheet
module _ (sheet : List ℕ) (place : ℕ) (c : M.Command) (next : ℕ) where
  pub found_within : M.command_at sheet place ≡ M.found c next → (place < next) × (next ≤ length sheet)
  unfolding M.command_at M.found_byte M.found_row M.found_whole
  found_within = byte (ltb place (length sheet))
    where
      whole : (r : M.Row) (b : Bool) → b ≡ leb (suc place + M.total r.widths) (length sheet) → M.found_whole b sheet place r ≡ M.found c next
          → (place < next) × (next ≤ length sheet)
      whole r true e q =
          let same : suc place + M.total r.widths ≡ next = cc in
          let fits : suc place + M.total r.widths ≤ length sheet = leb-true _ _ (sym e) in
          (omega arith, omega arith)
      whole r false e q = let z : ◌≡◌ {A = ℕ} 0 1 = cc in (omega arith, omega arith)

      row : (o : Found.Option M.Row) → M.found_row sheet place o ≡ M.found c next → (place < next) × (next ≤ length sheet)
      row none q = let z : ◌≡◌ {A = ℕ} 0 1 = cc in (omega arith, omega arith)
      row (some r) q = whole r (leb (suc place + M.total r.widths) (length sheet)) refl q

      byte : (b : Bool) → M.found_byte b sheet place ≡ M.found c next → (place < next) × (next ≤ length sheet)
      byte true q = row (M.row_of (get_or sheet place 0) M.table) q
      byte false q = let z : ◌≡◌ {A = ℕ} 0 1 = cc in (omega arith, omega arith)

-- WHAT IS TO COME: the sheet's rest, and one that waits behind a job that has ended
abbrev pub waits : Option ℕ → ℕ
waits (Some task) = 1
waits None = 0

abbrev pub to_come : List ℕ → ℕ → Option ℕ → ℕ
to_come sheet place ready = 2 * (length sheet - place) + waits ready

pub waits-most : (ready : Option ℕ) → waits ready ≤ 1
waits-most (Some task) = omega arith
waits-most None = omega arith

-- each release that comes leaves less of it: one of the sheet is a command found there, and one that waited does not come again
module _ (sheet : List ℕ) (place tick task next : ℕ) where
  in_sheet : coming_of (pending_at (M.command_at sheet place)) tick ≡ Due task next
      → (place < next) × (next ≤ length sheet)
  in_sheet e = go (M.command_at sheet place) refl e
    where
      same : (b : Bool) (n : ℕ) (q : ℕ) → due_by b q n ≡ Due task next → n ≡ next
      same true n q e = cc
      same false n q e = cc

      go : (f : M.Found) → M.command_at sheet place ≡ f → coming_of (pending_at f) tick ≡ Due task next
          → (place < next) × (next ≤ length sheet)
      go (M.refused f p) q e = cc
      go (M.found (M.RELEASE r) n) q e =
          let here = found_within sheet place (M.RELEASE r) n q in
          let s : n ≡ next = same (eqb r.tick tick) n r.task e in
          (omega arith, omega arith)
      go (M.found (M.WORD v) n) q e = cc
      go (M.found (M.BLOCK b) n) q e = cc
      go (M.found M.TASK n) q e = cc
      go (M.found M.END n) q e = cc
      go (M.found (M.body c) n) q e = cc

  in_order : (ready : Option ℕ) → coming_by ready place (pending_at (M.command_at sheet place)) tick ≡ Due task next
      → to_come sheet next None < to_come sheet place ready
  in_order (Some y) e = let same : place ≡ next = cc in rw same (omega arith)
  in_order None e = let d = in_sheet e in omega (arith, d.0, d.1)

  pub due_less : (ready : Option ℕ) (q : Option Pending) {c : Coming} → q ≡ pending_at (M.command_at sheet place)
      → c ≡ coming_by ready place q tick → c ≡ Due task next
      → to_come sheet next None < to_come sheet place ready
  due_less ready q e1 e2 e3 = in_order ready (rw e1 at (sym e2 ∙ e3))
