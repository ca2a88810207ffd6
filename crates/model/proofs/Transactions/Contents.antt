-- Laws of a run's contents and of the plain machine's COMMIT, element by element.
use Prim.Native.Nat.{ℕ, zero, suc, ◌+◌, ◌<◌}
use mathlib.Core.Path.{◌≡◌, refl, ◌∙◌, ap}
use mathlib.Core.List.{List, [], ◌∷◌}
use mathlib.Core.Option.{Option, none, some}
use native.Mathlib.Omega.{arith}
use lib.ListN.{length}
use lib.Seq.{ext_get_or}
use Rattle.model.specs.Lists.{at}
use Rattle.model.specs.Command.{Block, no_block}
use Rattle.model.specs.Plain.{commit_blocks}
use Rattle.model.specs.Claim.{each}

pub ext_at : {A : Type 0} (d : A) (l r : List A) → length l ≡ length r → ((i : ℕ) → i < length l → at d l i ≡ at d r i) → l ≡ r
unfolding at
ext_at d l r e h = ext_get_or d l r e h

module _ {A : Type 0} where
  pub length-each : (n i : ℕ) (f : ℕ → A) → length (each n i f) ≡ n
  unfolding each
  length-each zero i f = refl
  length-each (suc n) i f = ap suc (length-each n (suc i) f)

  pub at_each : (d : A) (n i : ℕ) (f : ℕ → A) (j : ℕ) → j < n → at d (each n i f) j ≡ f (i + j)
  unfolding at each
  at_each d zero i f j lt = absurd (omega arith)
  at_each d (suc n) i f zero lt = ap f (omega arith)
  at_each d (suc n) i f (suc j) lt = at_each d n (suc i) f j (omega arith) ∙ ap f (omega arith)

  pub each_same : (n i : ℕ) (f g : ℕ → A) → ((j : ℕ) → j < n → f (i + j) ≡ g (i + j)) → each n i f ≡ each n i g
  unfolding each
  each_same zero i f g h = refl
  each_same (suc n) i f g h =
      let e : f i ≡ g i = rw (sum_zero i) at (h 0 (omega arith)) in
      let r : each n (suc i) f ≡ each n (suc i) g = each_same n (suc i) f g (λ j lt. rw (sum_suc i j) at (h (suc j) (omega arith))) in
      rw (e, r)
    where
      sum_zero : (i : ℕ) → i + 0 ≡ i
      sum_zero i = omega arith

      sum_suc : (i j : ℕ) → i + suc j ≡ suc i + j
      sum_suc i j = omega arith

-- a block at COMMIT
abbrev pub commit_block : Option (List ℕ) → Block → Block
commit_block none b = b
commit_block (some vs) b = record { version = suc b.version; values = vs }

pub length-commit : (bs : List Block) (cs : List (Option (List ℕ))) → length (commit_blocks bs cs) ≡ length bs
unfolding commit_blocks
length-commit [] cs = refl
length-commit (b ∷ l) [] = refl
length-commit (b ∷ l) (none ∷ cs) = ap suc (length-commit l cs)
length-commit (b ∷ l) (some vs ∷ cs) = ap suc (length-commit l cs)

pub at-commit : (bs : List Block) (cs : List (Option (List ℕ))) (b : ℕ) → b < length bs
    → at no_block (commit_blocks bs cs) b ≡ commit_block (at none cs b) (at no_block bs b)
unfolding at commit_blocks
at-commit [] cs b lt = absurd (omega arith)
at-commit (y ∷ l) [] b lt = refl
at-commit (y ∷ l) (none ∷ cs) zero lt = refl
at-commit (y ∷ l) (some vs ∷ cs) zero lt = refl
at-commit (y ∷ l) (none ∷ cs) (suc b) lt = at-commit l cs b (omega arith)
at-commit (y ∷ l) (some vs ∷ cs) (suc b) lt = at-commit l cs b (omega arith)
