-- Laws of `at` and `replace`: the element replaced, the others, lengths, and maps. Also two ways to go by cases, and contradictions.
use Prim.Native.Nat.{ℕ, zero, suc, ◌+◌, ◌<◌, ◌≤◌}
use mathlib.Core.Path.{◌≡◌, refl, ap}
use mathlib.Core.Logic.{◌≢◌}
use mathlib.Core.Bool.{Bool, true, false}
use mathlib.Core.List.{List, [], ◌∷◌, ◌++◌, map}
use native.Mathlib.Decide.{ℕ_discrete, dec_lt}
use native.Mathlib.Omega.{arith}
use lib.ListN.{length, set, replicate, length-set, get_or-map, get_or-eq_default, get_or-append, get_or-replicate}
use lib.Seq.{get_or-set_same, get_or-set_other, set_out, get_or-append-add}
use Rattle.model.specs.Lists.{at, replace}

module _ {A : Type 0} where
  pub replace-same : (d : A) (l : List A) (i : ℕ) (a : A) → i < length l → at d (replace l i a) i ≡ a
  unfolding at replace
  replace-same d l i a h = get_or-set_same l i a d h

  pub replace-other : (d : A) (l : List A) (i j : ℕ) (a : A) → j ≢ i → at d (replace l i a) j ≡ at d l j
  unfolding at replace
  replace-other d l i j a n = get_or-set_other l i j a d n

  pub length-replace : (l : List A) (i : ℕ) (a : A) → length (replace l i a) ≡ length l
  unfolding replace
  length-replace l i a = length-set l i a

  pub replace-past : (l : List A) (i : ℕ) (a : A) → length l ≤ i → replace l i a ≡ l
  unfolding replace
  replace-past l i a h = set_out l i a h

  pub at-past : (d : A) (l : List A) (i : ℕ) → length l ≤ i → at d l i ≡ d
  unfolding at
  at-past d l i h = get_or-eq_default l d h

  pub at_append : (d : A) (l r : List A) (i : ℕ) → i < length l → at d (l ++ r) i ≡ at d l i
  unfolding at
  at_append d l r i h = get_or-append l r d i h

  pub at-behind : (d : A) (l r : List A) (n i : ℕ) → length l ≡ n → at d (l ++ r) (n + i) ≡ at d r i
  unfolding at
  at-behind d l r n i e = rw (← e) (get_or-append-add l r i d)

  pub at-replicate : (d a : A) (n i : ℕ) → i < n → at d (replicate n a) i ≡ a
  unfolding at
  at-replicate d a n i h = get_or-replicate n i a d h

  -- a list of defaults has the default everywhere
  pub at_default : (d : A) (n i : ℕ) → at d (replicate n d) i ≡ d
  unfolding at
  at_default d zero i = refl
  at_default d (suc n) zero = refl
  at_default d (suc n) (suc i) = at_default d n i

  -- an element other than the default stands below the length
  pub at_below : (d : A) (l : List A) (i : ℕ) → (at d l i ≡ d → ⊥) → i < length l
  at_below d l i n = go (dec_lt i (length l))
    where
      go : Dec (i < length l) → i < length l
      go (yes h) = h
      go (no m) = absurd (n (at-past d l i (omega arith)))

module _ {A B : Type 0} (f : A → B) where
  pub at_map : (d : A) (l : List A) (i : ℕ) → at (f d) (map f l) i ≡ f (at d l i)
  unfolding at
  at_map d l i = get_or-map f l i d

  pub map-replace : (l : List A) (i : ℕ) (a : A) → map f (replace l i a) ≡ replace (map f l) i (f a)
  unfolding replace
  map-replace l i a = go l i
    where
      go : (l : List A) (i : ℕ) → map f (set l i a) ≡ set (map f l) i (f a)
      go [] i = refl
      go (x ∷ l) zero = refl
      go (x ∷ l) (suc i) = ap (λ (z : List B). f x ∷ z) (go l i)

-- equations that contradict each other: `impossible (cc)`
pub impossible : {P : Type 0} → ◌≡◌ {A = ℕ} 0 1 → P
impossible e = absurd (omega arith)

-- two numbers are equal or not
pub same? : {P : Type 0} (i j : ℕ) → (i ≡ j → P) → (i ≢ j → P) → P
same? {P} i j f g = go (ℕ_discrete i j)
  where
    go : Dec (i ≡ j) → P
    go (yes e) = f e
    go (no n) = g n

-- a test, with what it says
pub test? : {P : Type 0} (b : Bool) → (b ≡ true → P) → (b ≡ false → P) → P
test? true f g = f refl
test? false f g = g refl
