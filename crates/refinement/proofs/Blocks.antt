-- The blocks of a transaction, read, touched and copied.
use Prim.Native.Nat.{ℕ, zero, suc, ◌+◌, ◌<◌}
use mathlib.Core.Path.{◌≡◌, refl, sym, ap, ◌∙◌}
use mathlib.Core.Bool.{Bool, true, false, false≢true}
use mathlib.Core.List.{List, ◌∷◌}
use native.Mathlib.Nat.{mod-eq_of_lt}
use native.Mathlib.Omega.{arith}
use Rattle.model.specs.Lists.{at, replace}
use Rattle.model.specs.Job.{Touched, untouched, remembered, copied}
use Rattle.model.specs.Transaction.{remembered_of}
use Rattle.model.proofs.Lists.{replace-same, replace-other}
use Rattle.model.proofs.Fit.Transaction.{touched?}
use Rattle.state.specs.State.{Blocks, Own, set_slot}
use Rattle.state.specs.Held.{touched_in, touched_of, block_at, blocks_from, blocks_of}
use Rattle.state.specs.Sized.{OwnSized}
use Rattle.transactions.specs.Blocks.{remembered_at, touching}
use Rattle.transactions.proofs.Mask.{bit_in, bit_other}
use Rattle.refinement.proofs.Tabulate.{tabulate, at_tabulate, tabulate_same, tabulate_replace}

module _ (x : Blocks) where
  by_number : (n b : ℕ) → blocks_from n x b ≡ tabulate n (λ i. block_at x (b + i))
  unfolding blocks_from tabulate
  by_number zero b = refl
  by_number (suc n) b =
      let first : b ≡ b + 0 = omega arith in
      ap (λ (k : ℕ). block_at x k ∷ blocks_from n x (suc b)) first
      ∙ ap (λ (l : List Touched). block_at x (b + 0) ∷ l)
      (by_number n (suc b) ∙ tabulate_same n _ _ (λ i h. ap (block_at x) (omega arith)))

  all_blocks : blocks_of x ≡ tabulate 16 (block_at x)
  all_blocks = by_number 16 0 ∙ tabulate_same 16 _ _ (λ i h. ap (block_at x) (omega arith))

  pub at-blocks : (b : ℕ) → b < 16 → at untouched (blocks_of x) b ≡ block_at x b
  at-blocks b h = ap (λ (l : List Touched). at untouched l b) all_blocks ∙ at_tabulate untouched 16 b (block_at x) h

module _ (t : Own) (own : OwnSized t) (b : ℕ) (h : b < 16) where
  -- a block is touched
  pub blocks-touched : (v : ℕ) → blocks_of (touching b v t).blocks ≡ replace (blocks_of t.blocks) b (remembered v)
  blocks-touched v =
      all_blocks (touching b v t).blocks
      ∙ tabulate_replace 16 (block_at t.blocks) (block_at (touching b v t).blocks) b (remembered v)
      (λ z. rw (
        mod-eq_of_lt h,
        bit_in t.blocks.touched b,
        replace-same 0 t.blocks.slots b 0 (omega (arith, own.slots)),
        replace-same 0 t.blocks.remembered b v (omega (arith, own.remembered)),
      ))
      (λ n z d. rw (
        mod-eq_of_lt h,
        bit_other t.blocks.touched b n d,
        replace-other 0 t.blocks.slots b n 0 d,
        replace-other 0 t.blocks.remembered b n v d,
      ))
      ∙ ap (λ (l : List Touched). replace l b (remembered v)) (sym (all_blocks t.blocks))

  -- a touched block is copied into a slot
  pub blocks-copied : (k : ℕ) → touched_in t.blocks.touched b ≡ true
      → blocks_of (set_slot t b (suc k)).blocks ≡ replace (blocks_of t.blocks) b (copied (remembered_at t b) k)
  blocks-copied k e =
      all_blocks (set_slot t b (suc k)).blocks
      ∙ tabulate_replace 16 (block_at t.blocks) (block_at (set_slot t b (suc k)).blocks) b (copied (remembered_at t b) k)
      (λ z. rw (e, replace-same 0 t.blocks.slots b (suc k) (omega (arith, own.slots))))
      (λ n z d. rw (replace-other 0 t.blocks.slots b n (suc k) d))
      ∙ ap (λ (l : List Touched). replace l b (copied (remembered_at t b) k)) (sym (all_blocks t.blocks))

-- a touched block is in the mask, and remembered
pub touched-in : (z : Bool) (k v : ℕ) → touched? (touched_of z k v) ≡ true → z ≡ true
touched-in false k v h = h
touched-in true k v h = refl

pub value-remembered : (z : Bool) (k v : ℕ) → touched? (touched_of z k v) ≡ true → remembered_of (touched_of z k v) ≡ v
value-remembered false k v h = absurd (false≢true h)
value-remembered true zero v h = refl
value-remembered true (suc k) v h = refl
