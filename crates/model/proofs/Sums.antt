-- A sum over ticks, one tick at a time.
use Prim.Native.Nat.{ℕ, zero, suc, ◌+◌, ◌≤◌}
use mathlib.Core.Path.{◌≡◌, refl}
use native.Mathlib.Omega.{arith}
use borrow.Author.Tests.{le-leb, lt-leb}
use Rattle.model.specs.Rates.{sum_before}

module _ (f : ℕ → ℕ) (a : ℕ) where
  pub sum_none : (n : ℕ) → n ≤ a → sum_before f a n ≡ 0
  unfolding sum_before
  sum_none zero l = refl
  sum_none (suc n) l = rw (lt-leb a n (omega arith), sum_none n (omega arith)) refl

  pub sum_next : (n : ℕ) → a ≤ n → sum_before f a (suc n) ≡ sum_before f a n + f n
  unfolding sum_before
  sum_next n l = rw (le-leb a n l) refl
