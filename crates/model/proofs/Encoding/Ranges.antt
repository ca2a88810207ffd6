-- The operands of a command in range fit the bytes that the table gives them.
use Prim.Native.Nat.{ℕ, zero, suc, ◌^◌, ◌<◌, ◌≤◌}
use mathlib.Core.Bool.{true, ◌&&◌}
use mathlib.Core.Path.{◌≡◌}
use mathlib.Core.List.{List, [], ◌∷◌}
use mathlib.Core.Option.{none}
use native.Mathlib.Omega.{arith}
use borrow.Author.Tests.{ltb-true, leb-true}
use lib.Dec.{ltb, leb}
use lib.ListN.{length, get_or, replicate}
use Rattle.model.specs.Ceilings.{max_words, max_blocks, max_tasks, value_range}
use Rattle.model.specs.Command.{GET, PUT, READ, PAIR, SWAP, BEGIN, access, COMMIT, LOAD, ADD, outside, inside, BodyCommand}
use Rattle.model.specs.Command.{Command, WORD, BLOCK, TASK, RELEASE, END, body, row_by}
use Rattle.model.specs.Fault.{SheetCounts, Known, nothing_known, in_range, in_range_body, under_ceiling, fault_of}
use Rattle.model.specs.Sheet.{after}
use Rattle.model.specs.Encoding.{operands_of, widths_of, ValuesFit, Fits, OperandsFit}
use Rattle.model.proofs.Fit.Elements.{and_left, and_right}
use Rattle.model.proofs.Fit.Body.{passed_of}

-- no more words, blocks and tasks are declared than the ceilings let
pub record Bounded (n : SheetCounts) : Type 0 where
  pub words : n.words ≤ max_words
  pub blocks : n.blocks ≤ max_blocks
  pub tasks : n.tasks ≤ max_tasks

pub nothing_bounded : Bounded nothing_known.counts
nothing_bounded = record { words = omega arith; blocks = omega arith; tasks = omega arith }

pub after_bounded : (k : Known) (c : Command) → fault_of k c ≡ none → Bounded k.counts → Bounded (after k c).counts
unfolding after under_ceiling
after_bounded k (WORD v) e h =
    record { words = omega (arith, ltb-true k.counts.words max_words (passed_of k (WORD v) e).under_ceiling); blocks = h.blocks; tasks = h.tasks }
after_bounded k (BLOCK b) e h =
    record { words = h.words; blocks = omega (arith, ltb-true k.counts.blocks max_blocks (passed_of k (BLOCK b) e).under_ceiling); tasks = h.tasks }
after_bounded k TASK e h =
    record { words = h.words; blocks = h.blocks; tasks = omega (arith, ltb-true k.counts.tasks max_tasks (passed_of k TASK e).under_ceiling) }
after_bounded k (RELEASE r) e h = record { words = h.words; blocks = h.blocks; tasks = h.tasks }
after_bounded k END e h = h
after_bounded k (body c) e h = record { words = h.words; blocks = h.blocks; tasks = h.tasks }

-- ONE OPERAND
seven : (r : ℕ) → leb r 7 ≡ true → r < 256 ^ 1
seven r e = omega (arith, leb-true r 7 e)

declared : (n m : ℕ) → n ≤ 32 → ltb m n ≡ true → m < 256 ^ 1
declared n m h e = omega (arith, ltb-true m n e)

values : (n : ℕ) (vs : List ℕ) → length vs ≡ n → ((i : ℕ) → get_or vs i 0 < value_range) → Fits (replicate n 4) vs
values zero [] e h = tt
values zero (v ∷ vs) e h = absurd (omega (arith, e))
values (suc n) [] e h = absurd (omega (arith, e))
values (suc n) (v ∷ vs) e h = (h 0, values n vs (omega (arith, e)) (λ i. h (suc i)))

-- EVERY COMMAND
module _ (n : SheetCounts) (h : Bounded n) where
  words : n.words ≤ 32
  words = h.words

  blocks : n.blocks ≤ 32
  blocks = omega (arith, h.blocks)

  tasks : n.tasks ≤ 32
  tasks = omega (arith, h.tasks)

  in-body : (c : BodyCommand) → in_range_body n c ≡ true → ValuesFit (body c) → OperandsFit (body c)
  unfolding in_range_body widths_of operands_of row_by
  in-body (LOAD r v) e f = (seven r e, (f, tt))
  in-body (ADD r q) e f = (seven r (and_left _ _ e), (seven q (and_right (leb r 7) _ e), tt))
  in-body (outside (READ r w)) e f = (seven r (and_left _ _ e), (declared _ w words (and_right (leb r 7) _ e), tt))
  in-body (outside (PAIR w old new)) e f =
      let range = and_left (ltb w n.words && leb old 7) (leb new 7) e in
      let last = and_right (ltb w n.words && leb old 7) (leb new 7) e in
      (declared _ w words (and_left _ (leb old 7) range), (seven old (and_right (ltb w n.words) _ range), (seven new last, tt)))
  in-body (outside (SWAP r)) e f = (seven r e, tt)
  in-body (outside BEGIN) e f = tt
  in-body (inside (access (GET r b o))) e f =
      let range = and_left (leb r 7 && ltb b n.blocks) (leb o 7) e in
      let last = and_right (leb r 7 && ltb b n.blocks) (leb o 7) e in
      (seven r (and_left _ (ltb b n.blocks) range), (declared _ b blocks (and_right (leb r 7) _ range), (seven o last, tt)))
  in-body (inside (access (PUT b o r))) e f =
      let range = and_left (ltb b n.blocks && leb o 7) (leb r 7) e in
      let last = and_right (ltb b n.blocks && leb o 7) (leb r 7) e in
      (declared _ b blocks (and_left _ (leb o 7) range), (seven o (and_right (ltb b n.blocks) _ range), (seven r last, tt)))
  in-body (inside COMMIT) e f = tt

  in_range_fits : (c : Command) → in_range n c ≡ true → ValuesFit c → OperandsFit c
  unfolding in_range widths_of operands_of row_by
  in_range_fits (WORD v) e f = (f, tt)
  in_range_fits (BLOCK b) e f = (omega (arith, leb-true b.version 16777215 e), values 8 b.values f.0 f.1)
  in_range_fits TASK e f = tt
  in_range_fits (RELEASE r) e f =
      let tick = leb-true r.tick 65535 (and_left _ (ltb r.task n.tasks) e) in
      (omega (arith, tick), (declared _ r.task tasks (and_right (leb r.tick 65535) _ e), tt))
  in_range_fits END e f = tt
  in_range_fits (body c) e f = in-body c e f

pub faultless_fits : (k : Known) → Bounded k.counts → (c : Command) → fault_of k c ≡ none → ValuesFit c → OperandsFit c
faultless_fits k h c e f = in_range_fits k.counts h c (passed_of k c e).in_range f
