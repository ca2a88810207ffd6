-- The search for a byte in a table: past its end, at an entry that has the byte, at one that has another; and a byte that no entry has.
use Prim.Native.Nat.{ℕ, ◌+◌, ◌<◌, ◌≤◌}
use mathlib.Core.Path.{◌≡◌, refl}
use mathlib.Core.Bool.{Bool, true, ◌&&◌, and-eq-true_iff}
use mathlib.Core.List.{List, [], ◌∷◌, ◌++◌}
use mathlib.Core.Logic.{◌⊎◌, ⊎_elim}
use native.Mathlib.Omega.{arith}
use native.Mathlib.Numerals.{add-one}
use borrow.Author.Tests.{eq-eqb, ne_eqb, leb-true}
use lib.Dec.{eqb, leb}
use Rattle.std.specs.Prelude.{Some, None}
use lib.ListN.{length, get_or, drop, drop_of_length-le}
use lib.Seq.{drop-cons}
use Rattle.commands.specs.Table.{entry_in}
use Rattle.commands.proofs.Decoding.{cases}
use Rattle.commands.specs.declared.table.Entry.{Entry}

-- what stands past the end
abbrev pub no_entry : Entry
no_entry = record { byte = 0; width = 0 }

module _ (b : ℕ) (l : List Entry) (i : ℕ) where
  pub past : length l ≤ i → entry_in b (drop i l) ≡ None
  unfolding entry_in
  past h = rw (drop_of_length-le l h)

  pub here : i < length l → b ≡ (get_or l i no_entry).byte → entry_in b (drop i l) ≡ Some (get_or l i no_entry)
  unfolding entry_in
  here h e = rw (drop-cons l i no_entry h, eq-eqb b (get_or l i no_entry).byte e)

  pub next : i < length l → (b ≡ (get_or l i no_entry).byte → ⊥) → entry_in b (drop i l) ≡ entry_in b (drop (i + 1) l)
  unfolding entry_in
  next h ne = rw (add-one, drop-cons l i no_entry h, ne_eqb b (get_or l i no_entry).byte ne)

-- A BYTE THAT NO ENTRY HAS
-- every byte of the table lies from one to another
unfoldable pub between? : ℕ → ℕ → List Entry → Bool
between? low high [] = true
between? low high (e ∷ l) = (leb low e.byte && leb e.byte high) && between? low high l

pub outside : (b low high : ℕ) (l : List Entry) → between? low high l ≡ true → (b < low) ⊎ (high < b) → entry_in b l ≡ None
unfolding entry_in between?
outside b low high [] t out = refl
outside b low high (e ∷ l) t out =
    let parts = (and-eq-true_iff (leb low e.byte && leb e.byte high) (between? low high l)).0 t in
    let ends = (and-eq-true_iff (leb low e.byte) (leb e.byte high)).0 parts.0 in
    let from : low ≤ e.byte = leb-true low e.byte ends.0 in
    let to : e.byte ≤ high = leb-true e.byte high ends.1 in
    let other : b ≡ e.byte → ⊥ = λ same. ⊎_elim (λ (o : b < low). omega arith) (λ (o : high < b). omega arith) out in
    rw (ne_eqb b e.byte other) (outside b low high l parts.1 out)

pub skipped : (b : ℕ) (l m : List Entry) → entry_in b l ≡ None → entry_in b (l ++ m) ≡ entry_in b m
unfolding entry_in
skipped b [] m none = refl
skipped b (e ∷ l) m none =
    cases (eqb b e.byte)
    (λ t. let found : Some e ≡ None = rw t at none in cc)
    (λ t. rw t (skipped b l m (rw t at none)))
