-- A store at place n * p + i of a flat list, seen in its rows.
use Prim.Native.Nat.{ℕ, zero, suc, ◌+◌, ◌*◌, ◌-◌, ◌<◌, ◌≤◌}
use mathlib.Core.Path.{◌≡◌, refl, sym, ap, ◌∙◌}
use mathlib.Core.Logic.{◌≢◌}
use mathlib.Core.List.{List, [], ◌∷◌}
use native.Mathlib.Nat.{mul-suc, mul-le-mul_left, add-zero}
use native.Mathlib.Decide.{dec_lt}
use native.Mathlib.Omega.{arith}
use lib.ListN.{length, set, take, drop, length-take, length-drop}
use lib.Seq.{take-set-lt, take-set-le, drop-set-add, drop-set-lt, get_or-take, get_or-drop}
use Rattle.model.specs.Lists.{at, replace}
use Rattle.state.specs.Rows.{row, rows_from, rows}

-- rows of n elements do not overlap
apart : (n p q : ℕ) → p < q → n * p + n ≤ n * q
apart n p q h = omega (arith, mul-le-mul_left n h, mul-suc n p)

module _ {A : Type 0} where
  pub at_row : (d : A) (n p i : ℕ) (l : List A) → i < n → at d (row n p l) i ≡ at d l (n * p + i)
  unfolding at row
  at_row d n p i l h = get_or-take n (drop (n * p) l) i d h ∙ get_or-drop (n * p) l i d

  pub row_same : (n p i : ℕ) (l : List A) (a : A) → i < n → row n p (replace l (n * p + i) a) ≡ replace (row n p l) i a
  unfolding replace row
  row_same n p i l a h = ap (take n) (drop-set-add (n * p) l i a) ∙ take-set-lt n (drop (n * p) l) i a h

  pub row_other : (n p q i : ℕ) (l : List A) (a : A) → i < n → q ≢ p → row n q (replace l (n * p + i) a) ≡ row n q l
  unfolding replace row
  row_other n p q i l a h ne = go (dec_lt p q)
    where
      go : Dec (p < q) → take n (drop (n * q) (set l (n * p + i) a)) ≡ take n (drop (n * q) l)
      go (yes lt) = ap (take n) (drop-set-lt (n * q) l (n * p + i) a (omega (arith, apart n p q lt)))
      go (no ge) =
          let k : ℕ = n * p + i - n * q in
          let above : n * q + n ≤ n * p = apart n q p (omega arith) in
          let place : n * p + i ≡ n * q + k = omega arith in
          ap (λ (z : ℕ). take n (drop (n * q) (set l z a))) place
          ∙ ap (take n) (drop-set-add (n * q) l k a)
          ∙ take-set-le n (drop (n * q) l) k a (omega arith)

  pub length-row : (n p : ℕ) (l : List A) → n * p + n ≤ length l → length (row n p l) ≡ n
  unfolding row
  length-row n p l h = simp (length-take, length-drop) (omega arith)

  length-rows_from : (n p k : ℕ) (l : List A) → length (rows_from n p k l) ≡ k
  unfolding rows_from
  length-rows_from n p zero l = refl
  length-rows_from n p (suc k) l = ap suc (length-rows_from n (suc p) k l)

  pub length-rows : (n k : ℕ) (l : List A) → length (rows n k l) ≡ k
  unfolding rows
  length-rows n k l = length-rows_from n 0 k l

  at-rows_from : (n p k i : ℕ) (l : List A) → i < k → at [] (rows_from n p k l) i ≡ row n (p + i) l
  unfolding at rows_from
  at-rows_from n p zero i l h = absurd (omega arith)
  at-rows_from n p (suc k) zero l h = rw add-zero
  at-rows_from n p (suc k) (suc i) l h =
      let e : suc p + i ≡ p + suc i = omega arith in at-rows_from n (suc p) k i l (omega arith) ∙ ap (λ (z : ℕ). row n z l) e

  pub at_rows : (n k p : ℕ) (l : List A) → p < k → at [] (rows n k l) p ≡ row n p l
  unfolding rows
  at_rows n k p l h = at-rows_from n 0 k p l h ∙ ap (λ (z : ℕ). row n z l) (omega arith)

  later_rows : (n p q k i : ℕ) (l : List A) (a : A) → i < n → p < q → rows_from n q k (replace l (n * p + i) a) ≡ rows_from n q k l
  unfolding rows_from
  later_rows n p q zero i l a h lt = refl
  later_rows n p q (suc k) i l a h lt = rw (row_other n p q i l a h (omega arith), later_rows n p (suc q) k i l a h (omega arith))

  both : {x y : List A} {u w : List (List A)} → x ≡ y → u ≡ w → x ∷ u ≡ y ∷ w
  both e f = cc

  rows_from-replace : (n p q k j i : ℕ) (l : List A) (a : A) → i < n → p ≡ q + j
      → rows_from n q k (replace l (n * p + i) a) ≡ replace (rows_from n q k l) j (replace (row n p l) i a)
  unfolding rows_from replace
  rows_from-replace n p q zero j i l a h e = refl
  rows_from-replace n p q (suc k) zero i l a h e =
      let same : p ≡ q = omega arith in
      both (ap (λ (z : ℕ). row n z (replace l (n * p + i) a)) (sym same) ∙ row_same n p i l a h) (later_rows n p (suc q) k i l a h (omega arith))
  rows_from-replace n p q (suc k) (suc j) i l a h e =
      both (row_other n p q i l a h (omega arith)) (rows_from-replace n p (suc q) k j i l a h (omega arith))

  pub rows-replace : (n k p i : ℕ) (l : List A) (a : A) → i < n
      → rows n k (replace l (n * p + i) a) ≡ replace (rows n k l) p (replace (row n p l) i a)
  unfolding rows
  rows-replace n k p i l a h = rows_from-replace n p 0 k p i l a h (omega arith)
