-- The registers of a task copied, its blocks and registers zeroed.
use Prim.Native.Nat.{ℕ, zero, suc, ◌<◌, ◌≤◌}
use mathlib.Core.Path.{◌≡◌, refl, sym, ap, ◌∙◌}
use mathlib.Core.List.{List}
use native.Mathlib.Omega.{arith}
use lib.ListN.{length, replicate, length-replicate}
use lib.Seq.{ext_get_or}
use Rattle.model.specs.Lists.{at, replace}
use Rattle.model.specs.Job as J
use Rattle.model.proofs.Lists.{replace-same, replace-other, length-replace, at-replicate, same?}
use Rattle.state.specs.State.{Own}
use Rattle.state.specs.Held.{blocks_from, blocks_of}
use Rattle.jobs.specs.Jobs.{keeping, restoring, zeroed}
use Rattle.jobs.proofs.Copied.{copied-size, copied_all}
use Rattle.transactions.specs.Blocks.{clearing}
use Rattle.state.specs.Sized.{OwnSized}
use Rattle.refinement.proofs.Sized.{registers-sized, kept-sized, blocks-sized}

-- ZEROED
pub zeroed-size : (n : ℕ) (l : List ℕ) → length (zeroed n l) ≡ length l
unfolding zeroed
zeroed-size zero l = refl
zeroed-size (suc n) l = length-replace (zeroed n l) n 0 ∙ zeroed-size n l

zeroed-at : (l : List ℕ) (n i : ℕ) → n ≤ length l → i < n → at 0 (zeroed n l) i ≡ 0
unfolding zeroed
zeroed-at l zero i h g = absurd (omega arith)
zeroed-at l (suc n) i h g =
    same? i n
    (λ e. ap (at 0 (replace (zeroed n l) n 0)) e ∙ replace-same 0 (zeroed n l) n 0 (omega (arith, zeroed-size n l)))
    (λ d. replace-other 0 (zeroed n l) n i 0 d ∙ zeroed-at l n i (omega arith) (omega arith))

-- a whole list
pub zeroed-all : (n : ℕ) (l : List ℕ) → length l ≡ n → zeroed n l ≡ replicate n 0
unfolding at
zeroed-all n l a =
    let size : length (zeroed n l) ≡ length l = zeroed-size n l in
    ext_get_or 0 (zeroed n l) (replicate n 0) (omega (arith, length-replicate {A = ℕ} n 0))
    (λ i h. zeroed-at l n i (omega arith) (omega arith) ∙ sym (at-replicate 0 0 n i (omega arith)))

-- IN A TASK'S RECORD
module _ (t : Own) (s : OwnSized t) where
  pub kept-all : (keeping 8 t).kept ≡ t.registers
  kept-all = copied_all 8 t.kept t.registers s.kept s.registers

  pub restored_all : (restoring 8 t).registers ≡ t.kept
  restored_all = copied_all 8 t.registers t.kept s.registers s.kept

  -- no block is touched
  pub cleared_blocks : blocks_of (clearing t).blocks ≡ replicate 16 J.untouched
  unfolding blocks_from
  cleared_blocks = refl

  pub keeping-sized : (n : ℕ) → OwnSized (keeping n t)
  keeping-sized n = kept-sized s _ (copied-size n t.kept t.registers ∙ s.kept)

  pub restoring-sized : (n : ℕ) → OwnSized (restoring n t)
  restoring-sized n = registers-sized s _ (copied-size n t.registers t.kept ∙ s.registers)

  pub clearing-sized : OwnSized (clearing t)
  clearing-sized = blocks-sized s _ (record { slots = s.slots; remembered = s.remembered })
