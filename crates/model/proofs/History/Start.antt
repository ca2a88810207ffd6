-- The start of a run: no job is unfinished, and the contents are those that the sheet declares.
use Prim.Native.Nat.{ℕ, zero, suc, ◌+◌, ◌*◌, ◌-◌, ◌<◌}
use mathlib.Core.Path.{◌≡◌, refl, ◌∙◌}
use mathlib.Core.List.{List, [], ◌∷◌, ◌++◌, map}
use native.Mathlib.Omega.{arith}
use lib.ListN.{length, replicate, length-append, length-replicate, length-map}
use Rattle.model.specs.Lists.{at}
use Rattle.model.specs.Command.{Block, BodyCommand, no_block}
use Rattle.model.specs.Sheet.{Sheet}
use Rattle.model.specs.Word.{Word, own, current_by, current, current_of, cell_of, fresh_word}
use Rattle.model.specs.Job.{idle}
use Rattle.model.specs.Transaction.{bank, bank_value, version_of, store_of, block_in}
use Rattle.model.specs.Machine.{no_task, task_at}
use Rattle.model.specs.Start.{filled, zeros, banks_from, tasks_from, start_memory, start_machine, start_values}
use Rattle.model.specs.Claim.{each, contents_of, declared_contents}
use Rattle.model.proofs.Lists.{at_append, at-behind, at_map}
use Rattle.model.proofs.Fit.Sheet.{SheetFit}
use Rattle.model.proofs.Fit.Start.{filled-size, banks_size, tasks-size}
use Rattle.model.proofs.History.Ticks.{Started}

-- LISTS
-- the elements one by one
each-is : {A : Type 0} (d : A) (l : List A) (i : ℕ) (f : ℕ → A) → ((k j : ℕ) → k ≡ i + j → j < length l → f k ≡ at d l j) → each (length l) i f ≡ l
unfolding each at
each-is d [] i f h = refl
each-is d (a ∷ l) i f h =
    let first : f i ≡ a = h i 0 (omega arith) (omega arith) in
    rw (first, each-is d l (suc i) f (λ k j e n. h k (suc j) (omega arith) (omega arith))) refl

at-filled : {A : Type 0} (e : A) (n : ℕ) (d : A) (l : List A) (i : ℕ) → i < length l → at e (filled n d l) i ≡ at e l i
unfolding filled
at-filled e n d l i h = at_append e l (replicate (n - length l) d) i h

-- TASKS
idle-behind : (n p : ℕ) → (task_at (replicate n no_task) p).job.phase ≡ idle
unfolding at
idle-behind zero p = refl
idle-behind (suc n) zero = refl
idle-behind (suc n) (suc p) = idle-behind n p

idle-all : (q : ℕ) (l : List (List BodyCommand)) (n p : ℕ) → (task_at (tasks_from q l ++ replicate n no_task) p).job.phase ≡ idle
unfolding at tasks_from
idle-all q [] n p = idle-behind n p
idle-all q (b ∷ l) n zero = refl
idle-all q (b ∷ l) n (suc p) = idle-all (suc q) l n p

pub started : {s : Sheet} → SheetFit s → Started (start_machine s)
unfolding start_machine filled
started {s} c = record {
  now = refl;
  size = filled-size 8 no_task (tasks_from 0 s.bodies) (rw (tasks-size 0 s.bodies) c.bodies);
  idle = λ p. idle-all 0 s.bodies (8 - length (tasks_from 0 s.bodies)) p;
}

-- CONTENTS
-- a fresh word's current value
current-fresh : (status : List ℕ) (saves : List (List ℕ)) (v : ℕ) → current status saves (fresh_word v) ≡ v
unfolding current own current_by
current-fresh status saves v = refl

bank-from : (store : ℕ) (l : List Block) (b : ℕ) → b < length l
    → at (fresh_word 0) (banks_from store l) b ≡ fresh_word (bank_value (at no_block l b).version (store + b))
unfolding at banks_from
bank-from store [] b h = absurd (omega arith)
bank-from store (x ∷ l) zero h = let z : store + 0 ≡ store = omega arith in rw z refl
bank-from store (x ∷ l) (suc b) h = let z : suc store + b ≡ store + suc b = omega arith in bank-from (suc store) l b (omega arith) ∙ rw z refl

abbrev pub word_cells : Sheet → List Word
word_cells s = filled 32 (fresh_word 0) (map fresh_word s.words)

abbrev pub first_store : Sheet → ℕ
first_store s = 4 * length s.bodies

abbrev pub bank_cells : Sheet → List Word
bank_cells s = filled 16 (fresh_word 0) (banks_from (first_store s) s.blocks)

abbrev own_stores : Sheet → List (List ℕ)
own_stores s = replicate (first_store s) (zeros 8) ++ map start_values s.blocks

pub start-cells : (s : Sheet) → (start_memory s).cells ≡ word_cells s ++ bank_cells s
unfolding start_memory
start-cells s = refl

start-stores : (s : Sheet) → (start_memory s).stores ≡ filled 48 (zeros 8) (own_stores s)
unfolding start_memory
start-stores s = refl

pub start-memory : (s : Sheet) → (start_machine s).memory ≡ start_memory s
unfolding start_machine
start-memory s = refl

module _ {s : Sheet} (c : SheetFit s) where
  words_size : length (word_cells s) ≡ 32
  words_size = filled-size 32 (fresh_word 0) (map fresh_word s.words) (rw (length-map s.words fresh_word) c.words)

  word_cell : (w : ℕ) → w < length s.words → cell_of (start_memory s) w ≡ fresh_word (at 0 s.words w)
  word_cell w h =
      let n = c.words in
      let k : w < length (word_cells s) = omega (arith, words_size) in
      let l : w < length (map fresh_word s.words) = rw (length-map s.words fresh_word) h in
      rw (start-cells s)
      (at_append (fresh_word 0) (word_cells s) (bank_cells s) w k ∙ at-filled (fresh_word 0) 32 (fresh_word 0) (map fresh_word s.words) w l
      ∙ at_map fresh_word 0 s.words w)

  bank-cell : (b : ℕ) → b < length s.blocks
      → cell_of (start_memory s) (bank b) ≡ fresh_word (bank_value (at no_block s.blocks b).version (first_store s + b))
  bank-cell b h =
      let l : b < length (banks_from (first_store s) s.blocks) = rw (banks_size (first_store s) s.blocks) h in
      rw (start-cells s)
      (at-behind (fresh_word 0) (word_cells s) (bank_cells s) 32 b words_size
      ∙ at-filled (fresh_word 0) 16 (fresh_word 0) (banks_from (first_store s) s.blocks) b l ∙ bank-from (first_store s) s.blocks b h)

  block_store : (b : ℕ) → b < length s.blocks → at [] (start_memory s).stores (first_store s + b) ≡ (at no_block s.blocks b).values
  block_store b h =
      let n = length-append (replicate (first_store s) (zeros 8)) (map start_values s.blocks) in
      let k = length-replicate (first_store s) (zeros 8) in
      let l : first_store s + b < length (own_stores s) = omega (arith, length-map s.blocks start_values) in
      rw (start-stores s)
      (at-filled [] 48 (zeros 8) (own_stores s) (first_store s + b) l
      ∙ at-behind [] (replicate (first_store s) (zeros 8)) (map start_values s.blocks) (first_store s) b k ∙ at_map start_values no_block s.blocks b)

  word-start : (w : ℕ) → w < length s.words → current_of (start_memory s) w ≡ at 0 s.words w
  word-start w h = rw (word_cell w h) (current-fresh (start_memory s).status (start_memory s).saves (at 0 s.words w))

  pub bank-start : (b : ℕ) → b < length s.blocks
      → current_of (start_memory s) (bank b) ≡ bank_value (at no_block s.blocks b).version (first_store s + b)
  bank-start b h =
      rw (bank-cell b h)
      (current-fresh (start_memory s).status (start_memory s).saves (bank_value (at no_block s.blocks b).version (first_store s + b)))

  block_start : (b : ℕ) → b < length s.blocks → block_in (start_memory s) b ≡ at no_block s.blocks b
  block_start b h =
      let v : version_of (bank_value (at no_block s.blocks b).version (first_store s + b)) ≡ (at no_block s.blocks b).version =
      omega (arith, c.blocks, c.bodies) in
      let i : store_of (bank_value (at no_block s.blocks b).version (first_store s + b)) ≡ first_store s + b = omega (arith, c.blocks, c.bodies) in
      rw (bank-start b h, v, i, block_store b h) refl

  words-declared : each (length s.words) 0 (current_of (start_memory s)) ≡ s.words
  words-declared = each-is 0 s.words 0 (current_of (start_memory s)) (λ k j e h. let z : k ≡ j = omega arith in rw z (word-start j h))

  blocks-declared : each (length s.blocks) 0 (block_in (start_memory s)) ≡ s.blocks
  blocks-declared = each-is no_block s.blocks 0 (block_in (start_memory s)) (λ k j e h. let z : k ≡ j = omega arith in rw z (block_start j h))

  pub contents-start : contents_of s (start_machine s).memory ≡ declared_contents s
  contents-start = rw (start-memory s, words-declared, blocks-declared) refl
