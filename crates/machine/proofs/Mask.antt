-- The highest set bit of a mask of eight, by its leading zeros.
use mathlib.Core.Path.{◌≡◌, refl, sym, ◌∙◌, subst}
use mathlib.Core.Logic.{◌⊎◌, inl, inr}
use Prim.Native.Nat.{ℕ, zero, suc, ◌+◌, ◌-◌, ◌/◌, ◌^◌, ◌≤◌, ◌<◌}
use native.Mathlib.Nat.{le_trans, lt_of_not-le, not-le_of_lt, pow-le-pow_right, pow-suc, div-eq_of_lt-le}
use native.Mathlib.Nat.{div-eq_of_lt, lt_of_lt_of_le, eq-or-lt_of_le, le_of_suc-le-suc, not-suc-le-zero}
use native.Mathlib.Omega.{arith}
use borrow.Author.Tests.{ne_eqb}
use lib.Count.{count_leading_zeros, leading_top}
use lib.Dec.{lit<, lit≤}
use Rattle.machine.specs.Flat.{top_of}

-- the highest of the tasks that a mask has is the one whose bit is the mask's highest
top_is : (k m r : ℕ) → r < k → m / 2 ^ r ≡ 1 → m < 2 ^ suc r → top_of k m ≡ r
unfolding top_of
top_is zero m r h e lt = absurd (not-suc-le-zero h)
top_is (suc k) m r h e lt = pick (λ l. top_is k m r l e lt) (eq-or-lt_of_le (le_of_suc-le-suc h))
  where
    pick : (r < k → top_of k m ≡ r) → (r ≡ k) ⊎ (r < k) → top_of (suc k) m ≡ r
    pick rest (inl q) = let e' : m / 2 ^ k ≡ 1 = subst (λ (x : ℕ). m / 2 ^ x ≡ 1) q e in simp e' (sym q)
    pick rest (inr l) =
        let z : m / 2 ^ k ≡ 0 = div-eq_of_lt (lt_of_lt_of_le lt (pow-le-pow_right {n = 2} (lit< tt) l)) in
        simp z (rest l)

pub top-of : (a : ℕ) → 0 < a → a < 256 → (count_leading_zeros 32 a ≤ 31) × (31 - count_leading_zeros 32 a < 8) × (31 - count_leading_zeros 32 a ≡ top_of 8 a)
top-of a pos h =
    let t = leading_top 32 a pos (lt_of_lt_of_le h (lit≤ tt)) in
    let z : ℕ = count_leading_zeros 32 a in
    let j : ℕ = t.0 in
    let sum : z + suc j ≡ 32 = t.1 in
    let is-j : 31 - z ≡ j = omega arith in
    let small : j < 8 = lt_of_not-le (λ (g : 8 ≤ j). not-le_of_lt h (le_trans (pow-le-pow_right {n = 2} (lit< tt) g) t.2)) in
    let one : a / 2 ^ j ≡ 1 = div-eq_of_lt-le {k = 1} (2 ^ j) (omega (arith, t.2)) (omega (arith, t.3, pow-suc 2 j)) in
    (omega arith, omega arith, is-j ∙ sym (top_is 8 a j small one t.3))

pub top_none : top_of 8 0 ≡ 0
unfolding top_of
top_none = refl

pub top_past : (m : ℕ) → 255 < m → top_of 8 m ≡ 7
unfolding top_of
top_past m h = let n : m / 128 ≡ 0 → ⊥ = λ e. omega arith in rw (ne_eqb (m / 128) 0 n)
