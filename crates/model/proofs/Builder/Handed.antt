-- A command in range that is handed over by its byte and operands has the operands as they were given.
use Prim.Native.Nat.{ℕ, min, ◌≤◌}
use mathlib.Core.Bool.{true, ◌&&◌}
use mathlib.Core.Path.{◌≡◌, refl, sym, ap, ◌∙◌}
use mathlib.Core.List.{List}
use mathlib.Core.Option.{Option, none, some}
use native.Mathlib.Omega.{arith}
use borrow.Author.Tests.{ltb-true, leb-true}
use lib.Dec.{ltb, leb}
use lib.ListN.{get_or}
use Rattle.model.specs.Command.{GET, PUT, READ, PAIR, SWAP, access, LOAD, ADD, outside, inside, Command, RELEASE, body, Row, table, row_of}
use Rattle.model.specs.Fault.{SheetCounts, in_range}
use Rattle.model.specs.Builder.{narrowed, handed_by, handed, given_by, given}
use Rattle.model.proofs.Lists.{impossible}
use Rattle.model.proofs.Fit.Accepted.{EachRow, row-each}
use Rattle.model.proofs.Fit.Elements.{and_left, and_right}
use Rattle.model.proofs.Encoding.Ranges.{Bounded}

-- ONE OPERAND below 255 is as it was given
seven : (v : ℕ) → leb (min v 255) 7 ≡ true → min v 255 ≡ v
seven v e = omega (arith, leb-true (min v 255) 7 e)

below : (n v : ℕ) → n ≤ 32 → ltb (min v 255) n ≡ true → min v 255 ≡ v
below n v h e = omega (arith, ltb-true (min v 255) n e)

-- EACH ROW of the table
abbrev Exact : Row → Type 0
Exact r = (n : SheetCounts) → Bounded n → (o : List ℕ) → in_range n (r.command (λ i. narrowed (get_or r.widths i 0) (get_or o i 0))) ≡ true
    → r.command (λ i. narrowed (get_or r.widths i 0) (get_or o i 0)) ≡ r.command (λ i. get_or o i 0)

module _ (n : SheetCounts) (h : Bounded n) (o : List ℕ) where
  abbrev byte : ℕ → ℕ
  byte i = min (get_or o i 0) 255

  words : n.words ≤ 32
  words = h.words

  blocks : n.blocks ≤ 32
  blocks = omega (arith, h.blocks)

  tasks : n.tasks ≤ 32
  tasks = omega (arith, h.tasks)

  release-row : leb (get_or o 0 0) 65535 && ltb (byte 1) n.tasks ≡ true
      → ◌≡◌ {A = Command} (RELEASE (record { tick = get_or o 0 0; task = byte 1 })) (RELEASE (record { tick = get_or o 0 0; task = get_or o 1 0 }))
  release-row e = rw (below n.tasks (get_or o 1 0) tasks (and_right (leb (get_or o 0 0) 65535) _ e)) refl

  load_row : leb (byte 0) 7 ≡ true → ◌≡◌ {A = Command} (body (LOAD (byte 0) (get_or o 1 0))) (body (LOAD (get_or o 0 0) (get_or o 1 0)))
  load_row e = rw (seven (get_or o 0 0) e) refl

  add_row : leb (byte 0) 7 && leb (byte 1) 7 ≡ true → ◌≡◌ {A = Command} (body (ADD (byte 0) (byte 1))) (body (ADD (get_or o 0 0) (get_or o 1 0)))
  add_row e = rw (seven (get_or o 0 0) (and_left _ (leb (byte 1) 7) e), seven (get_or o 1 0) (and_right (leb (byte 0) 7) _ e)) refl

  read-row : leb (byte 0) 7 && ltb (byte 1) n.words ≡ true
      → ◌≡◌ {A = Command} (body (outside (READ (byte 0) (byte 1)))) (body (outside (READ (get_or o 0 0) (get_or o 1 0))))
  read-row e =
      rw (seven (get_or o 0 0) (and_left _ (ltb (byte 1) n.words) e), below n.words (get_or o 1 0) words (and_right (leb (byte 0) 7) _ e)) refl

  pair_row : (ltb (byte 0) n.words && leb (byte 1) 7) && leb (byte 2) 7 ≡ true
      → ◌≡◌ {A = Command} (body (outside (PAIR (byte 0) (byte 1) (byte 2)))) (body (outside (PAIR (get_or o 0 0) (get_or o 1 0) (get_or o 2 0))))
  pair_row e =
      let front = and_left (ltb (byte 0) n.words && leb (byte 1) 7) (leb (byte 2) 7) e in
      rw (
        below n.words (get_or o 0 0) words (and_left _ (leb (byte 1) 7) front),
        seven (get_or o 1 0) (and_right (ltb (byte 0) n.words) _ front),
        seven (get_or o 2 0) (and_right (ltb (byte 0) n.words && leb (byte 1) 7) _ e),
      ) refl

  swap-row : leb (byte 0) 7 ≡ true → ◌≡◌ {A = Command} (body (outside (SWAP (byte 0)))) (body (outside (SWAP (get_or o 0 0))))
  swap-row e = rw (seven (get_or o 0 0) e) refl

  get_row : (leb (byte 0) 7 && ltb (byte 1) n.blocks) && leb (byte 2) 7 ≡ true
      → ◌≡◌ {A = Command} (body (inside (access (GET (byte 0) (byte 1) (byte 2))))) (body (inside (access (GET (get_or o 0 0) (get_or o 1 0) (get_or o 2 0)))))
  get_row e =
      let front = and_left (leb (byte 0) 7 && ltb (byte 1) n.blocks) (leb (byte 2) 7) e in
      rw (
        seven (get_or o 0 0) (and_left _ (ltb (byte 1) n.blocks) front),
        below n.blocks (get_or o 1 0) blocks (and_right (leb (byte 0) 7) _ front),
        seven (get_or o 2 0) (and_right (leb (byte 0) 7 && ltb (byte 1) n.blocks) _ e),
      ) refl

  put_row : (ltb (byte 0) n.blocks && leb (byte 1) 7) && leb (byte 2) 7 ≡ true
      → ◌≡◌ {A = Command} (body (inside (access (PUT (byte 0) (byte 1) (byte 2))))) (body (inside (access (PUT (get_or o 0 0) (get_or o 1 0) (get_or o 2 0)))))
  put_row e =
      let front = and_left (ltb (byte 0) n.blocks && leb (byte 1) 7) (leb (byte 2) 7) e in
      rw (
        below n.blocks (get_or o 0 0) blocks (and_left _ (leb (byte 1) 7) front),
        seven (get_or o 1 0) (and_right (ltb (byte 0) n.blocks) _ front),
        seven (get_or o 2 0) (and_right (ltb (byte 0) n.blocks && leb (byte 1) 7) _ e),
      ) refl

all-exact : EachRow Exact table
unfolding table in_range
all-exact = (
  λ n h o e. refl,
  (
    λ n h o e. refl,
    (
      λ n h o e. refl,
      (
        release-row,
        (
          λ n h o e. refl,
          (load_row, (add_row, (read-row, (pair_row, (swap-row, (λ n h o e. refl, (get_row, (put_row, (λ n h o e. refl, tt))))))))),
        ),
      ),
    ),
  ),
)

-- A COMMAND HANDED OVER
module _ (n : SheetCounts) (h : Bounded n) (b : ℕ) (o : List ℕ) (c : Command) (range : in_range n c ≡ true) where
  by_row : (r : Option Row) → row_of b table ≡ r → handed_by r o ≡ some c → given_by r o ≡ some c
  unfolding handed_by given_by
  by_row none e f = impossible (cc)
  by_row (some r) e f =
      let is : r.command (λ i. narrowed (get_or r.widths i 0) (get_or o i 0)) ≡ c = cc in
      let good : in_range n (r.command (λ i. narrowed (get_or r.widths i 0) (get_or o i 0))) ≡ true = rw is range in
      ap some (sym (row-each Exact b table all-exact r e n h o good) ∙ is)

  pub handed-exact : handed b o ≡ some c → given b o ≡ some c
  unfolding handed given
  handed-exact e = by_row (row_of b table) refl e
