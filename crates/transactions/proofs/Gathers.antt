-- Each pass gathers one touched block, or takes its old store back: the lowest of those that are left.
use Rattle.std.proofs.Common.{◌≡◌, ℕ, ◌+◌, ◌-◌, ◌<◌, Bool, true, false, ◌||◌, length, sym, refl, ap, ◌∙◌, arith}
use lib.Bits.{bit_and}
use lib.Count.{count_trailing_zeros}
use Rattle.model.specs.Transaction.{taken_back}
use Rattle.state.specs.State.{Own, with_entries, with_copies}
use Rattle.state.specs.Held.{blocks_of}
use Rattle.exchanges.specs.Places.{noted}
use Rattle.transactions.specs.Blocks.{touched_from, touched_blocks, spent_at, entered_bank, entering}
use Rattle.transactions.specs.Blocks.{gathering, gathered_one, gathered_over, gathered_all, taken_one, taking_one, taking_back}
use Rattle.transactions.specs.Commits.{gathered_in, Gathers}
use Rattle.transactions.proofs.Mask.{lowest-first, fewer}
use Rattle.transactions.proofs.Walks.{touched_few, counted, spent_over, spent-over, taken_over, taken-over}

-- after n passes over the blocks of t, whose task is u by now and whose mask still to gather is `rest`
pub record Passed (t u : Own) (rest n : ℕ) (spent : Bool) : Type 0 where
  pub below : rest < 65536
  pub task : u ≡ with_entries t u.entries
  pub entries : gathered_over t (touched_from 16 rest 0) (gathering n u.entries) ≡ gathered_all t
  pub passes : n + length (touched_from 16 rest 0) ≡ length (touched_blocks t)
  pub spends : spent || spent_over t.blocks (touched_from 16 rest 0) ≡ spent_over t.blocks (touched_blocks t)

pub passed_none : (t : Own) → t.blocks.touched < 65536 → Passed t t t.blocks.touched 0 false
passed_none t l = record { below = l; task = refl; entries = refl; passes = omega arith; spends = refl }

module _ {t u : Own} {rest n : ℕ} {spent : Bool} (f : Passed t u rest n spent) where
  -- ONE MORE PASS
  module _ (p : 0 < rest) where
    abbrev b : ℕ
    b = count_trailing_zeros 32 rest

    abbrev left : ℕ
    left = bit_and rest (rest - 1)

    pub passed-room : n < 16
    passed-room =
        omega (arith, f.passes, touched_few 16 t.blocks.touched 0, ap length (lowest-first rest p f.below))

    or_assoc : (x y z : Bool) → (x || y) || z ≡ x || (y || z)
    or_assoc true y z = refl
    or_assoc false y z = refl

    pub passed_more : (v : Own) (s : Bool) → s ≡ spent_at u b → v ≡ entering b n u
        → Passed t v left (n + 1) (spent || s)
    unfolding gathered_over gathered_one spent_over
    passed_more v s is e =
        let blocks : u.blocks ≡ t.blocks = ap (λ (w : Own). w.blocks) f.task in
        let copies : u.copies ≡ t.copies = ap (λ (w : Own). w.copies) f.task in
        let lowest = lowest-first rest p f.below in
        rw (e, is)
        (record {
          below = omega (arith, fewer rest p, f.below);
          task = ap (λ (w : Own). with_entries w (entered_bank u b n u.entries)) f.task;
          entries = rw (blocks, copies) (rw lowest at f.entries);
          passes = omega (arith, f.passes, ap length lowest);
          spends = or_assoc spent _ _ ∙ rw blocks (rw lowest at f.spends);
        })

or_none : (x : Bool) → x || false ≡ x
or_none true = refl
or_none false = refl

-- ALL PASSES DONE
pub passed-all : {t u : Own} {n : ℕ} {spent : Bool} → Passed t u 0 n spent → Gathers t (record { passes = n; spent = spent }) u
unfolding touched_from gathered_over spent_over
passed-all {t} {u} {n} {spent} f =
    let all : n + 0 ≡ length (touched_blocks t) = f.passes in
    record {
      entries = ap (noted n) f.task ∙ ap (gathered_in t) f.entries;
      passes = omega (arith, counted t.blocks 16 0);
      spent = sym (or_none spent) ∙ f.spends ∙ sym (spent-over t.blocks 16 0);
    }

-- OLD STORES TAKEN BACK, those of the blocks of `rest` still to come
pub record Taken (t u : Own) (rest : ℕ) : Type 0 where
  pub below : rest < 65536
  pub task : u ≡ with_copies t u.copies
  pub copies : taken_over t.blocks (touched_from 16 rest 0) u.copies ≡ taken_back t.copies (blocks_of t.blocks)

pub taken_none : (t : Own) → t.blocks.touched < 65536 → Taken t t t.blocks.touched
taken_none t l = record { below = l; task = refl; copies = sym (taken-over t.blocks 16 0 t.copies) }

pub taken_more : {t u : Own} {rest : ℕ} → Taken t u rest → 0 < rest → (v : Own) → v ≡ taking_one (count_trailing_zeros 32 rest) u
    → Taken t v (bit_and rest (rest - 1))
unfolding taken_over
taken_more {t} {u} {rest} f p v e =
    let blocks : u.blocks ≡ t.blocks = ap (λ (w : Own). w.blocks) f.task in
    let lowest = lowest-first rest p f.below in
    rw e
    (record {
      below = omega (arith, fewer rest p, f.below);
      task = ap (λ (w : Own). with_copies w (taken_one u.blocks (count_trailing_zeros 32 rest) u.copies)) f.task;
      copies = rw blocks (rw lowest at f.copies);
    })

pub taken-all : {t u : Own} → Taken t u 0 → u ≡ taking_back t
unfolding touched_from taken_over
taken-all {t} f = f.task ∙ ap (with_copies t) f.copies
