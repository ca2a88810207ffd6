-- Tests of two parts, membership of a number in a list, and facts about every element of a list.
use Prim.Native.Nat.{ℕ, zero, suc, ◌<◌, ◌≤◌}
use mathlib.Core.Path.{◌≡◌, refl, sym, ◌∙◌, ap, subst}
use mathlib.Core.Bool.{Bool, true, false, ◌&&◌, ◌||◌, true≢false, false≢true}
use mathlib.Core.List.{List, [], ◌∷◌, ◌++◌}
use native.Mathlib.Omega.{arith}
use native.Mathlib.Decide.{dec_lt}
use lib.Dec.{eqb, ltb}
use lib.ListN.{length, length-append, replicate, length-replicate}
use borrow.Author.Tests.{eq-eqb, ltb-true}
use Rattle.model.specs.Fault.{among, include_by, include, room}
use Rattle.model.specs.Lists.{at, replace}
use Rattle.model.proofs.Lists.{same?, replace-same, replace-other, replace-past, at-replicate, at_default}

pub and_left : (a b : Bool) → (a && b) ≡ true → a ≡ true
and_left true b e = refl
and_left false b e = e

pub and_right : (a b : Bool) → (a && b) ≡ true → b ≡ true
and_right true b e = e
and_right false b e = absurd (false≢true e)

pub and_false : (a : Bool) → (a && false) ≡ false
and_false true = refl
and_false false = refl

pub or_cases : {P : Type 0} (a b : Bool) → (a || b) ≡ true → (a ≡ true → P) → (b ≡ true → P) → P
or_cases true b e f g = f refl
or_cases false b e f g = g e

pub or_left : (a b : Bool) → a ≡ true → (a || b) ≡ true
or_left true b e = refl
or_left false b e = absurd (false≢true e)

pub or_right : (a b : Bool) → b ≡ true → (a || b) ≡ true
or_right true b e = refl
or_right false b e = e

pub or_none : (a b : Bool) → (a || b) ≡ false → a ≡ false
or_none true b e = e
or_none false b e = refl

pub or_none_right : (a b : Bool) → (a || b) ≡ false → b ≡ false
or_none_right true b e = absurd (true≢false e)
or_none_right false b e = e

-- MEMBERSHIP
pub among_append : (x : ℕ) (l r : List ℕ) → among x l ≡ true → among x (l ++ r) ≡ true
unfolding among
among_append x [] r e = absurd (false≢true e)
among_append x (y ∷ l) r e =
    or_cases (eqb x y) (among x l) e
    (λ s. or_left (eqb x y) (among x (l ++ r)) s)
    (λ m. or_right (eqb x y) (among x (l ++ r)) (among_append x l r m))

pub among-last : (x : ℕ) (l : List ℕ) → among x (l ++ (x ∷ [])) ≡ true
unfolding among
among-last x [] = or_left (eqb x x) false (eq-eqb x x refl)
among-last x (y ∷ l) = or_right (eqb x y) (among x (l ++ (x ∷ []))) (among-last x l)

pub include-same : (x : ℕ) (l : List ℕ) → among x (include x l) ≡ true
unfolding include_by
include-same x l = go (among x l) refl
  where
    go : (b : Bool) → among x l ≡ b → among x (include_by b x l) ≡ true
    go true e = e
    go false e = among-last x l

pub include_more : (x y : ℕ) (l : List ℕ) → among x l ≡ true → among x (include y l) ≡ true
unfolding include_by
include_more x y l m = go (among y l)
  where
    go : (b : Bool) → among x (include_by b y l) ≡ true
    go true = m
    go false = among_append x l (y ∷ []) m

-- one more stays under the ceiling where there is room
pub include-size : (most x : ℕ) (l : List ℕ) → length l ≤ most → room most x l ≡ true → length (include x l) ≤ most
unfolding include_by
include-size most x l h r = go (among x l) r
  where
    go : (b : Bool) → (b || ltb (length l) most) ≡ true → length (include_by b x l) ≤ most
    go true e = h
    go false e = omega (arith, length-append l (x ∷ []), ltb-true (length l) most e)

-- EVERY ELEMENT
-- one number is below another or not
pub below? : {P : Type 0} (i n : ℕ) → (i < n → P) → (n ≤ i → P) → P
below? {P} i n f g = go (dec_lt i n)
  where
    go : Dec (i < n) → P
    go (yes h) = f h
    go (no h) = g (omega arith)

module _ {A : Type 0} (d : A) where
  -- what holds of the new element and of all old ones holds of all
  pub replace-all : (P : A → Type 0) (l : List A) (i : ℕ) (a : A) → P a → ((j : ℕ) → P (at d l j)) → (j : ℕ) → P (at d (replace l i a) j)
  replace-all P l i a new old j = go (dec_lt i (length l))
    where
      go : Dec (i < length l) → P (at d (replace l i a) j)
      go (yes h) =
          same? j i
          (λ e. subst P (sym (rw e (replace-same d l i a h))) new)
          (λ n. subst P (sym (replace-other d l i j a n)) (old j))
      go (no h) = subst (λ (r : List A). P (at d r j)) (sym (replace-past l i a (omega arith))) (old j)

  -- a part that the new element has as the old one stays at every place
  pub replace-part : {B : Type 0} (f : A → B) (l : List A) (i : ℕ) (a : A) → f a ≡ f (at d l i) → (j : ℕ) → f (at d (replace l i a) j) ≡ f (at d l j)
  replace-part f l i a e j = go (dec_lt i (length l))
    where
      go : Dec (i < length l) → f (at d (replace l i a) j) ≡ f (at d l j)
      go (yes h) =
          same? j i
          (λ q. ap f (rw q (replace-same d l i a h)) ∙ e ∙ ap (λ (n : ℕ). f (at d l n)) (sym q))
          (λ n. ap f (replace-other d l i j a n))
      go (no h) = ap (λ (r : List A). f (at d r j)) (replace-past l i a (omega arith))

  -- what holds of the default, of one more element and of all old ones holds of all
  pub append_all : (P : A → Type 0) (l : List A) (a : A) → P d → P a → ((j : ℕ) → P (at d l j)) → (j : ℕ) → P (at d (l ++ (a ∷ [])) j)
  unfolding at
  append_all P [] a none new old zero = new
  append_all P [] a none new old (suc j) = none
  append_all P (x ∷ l) a none new old zero = old zero
  append_all P (x ∷ l) a none new old (suc j) = append_all P l a none new (λ i. old (suc i)) j

  -- what holds of the elements of two lists holds of those of both together
  pub append_each : (P : A → Type 0) (l r : List A) → ((j : ℕ) → j < length l → P (at d l j)) → ((j : ℕ) → j < length r → P (at d r j)) → (j : ℕ)
      → j < length (l ++ r) → P (at d (l ++ r) j)
  unfolding at
  append_each P [] r f g j h = g j h
  append_each P (x ∷ l) r f g zero h = f zero (omega arith)
  append_each P (x ∷ l) r f g (suc j) h = append_each P l r (λ i k. f (suc i) (omega arith)) g j (omega arith)

  pub first-each : (P : A → Type 0) (a : A) (l : List A) → P a → ((j : ℕ) → j < length l → P (at d l j)) → (j : ℕ) → j < suc (length l)
      → P (at d (a ∷ l) j)
  unfolding at
  first-each P a l f g zero h = f
  first-each P a l f g (suc j) h = g j (omega arith)

  pub replicate-each : (P : A → Type 0) (n : ℕ) (a : A) → P a → (j : ℕ) → j < length (replicate n a) → P (at d (replicate n a) j)
  replicate-each P n a p j h = subst P (sym (at-replicate d a n j (rw (length-replicate n a) at h))) p

  -- the same at every number, also past the end
  pub append_every : (P : A → Type 0) (l r : List A) → ((j : ℕ) → P (at d l j)) → ((j : ℕ) → P (at d r j)) → (j : ℕ) → P (at d (l ++ r) j)
  unfolding at
  append_every P [] r f g j = g j
  append_every P (x ∷ l) r f g zero = f zero
  append_every P (x ∷ l) r f g (suc j) = append_every P l r (λ i. f (suc i)) g j

  pub first-every : (P : A → Type 0) (a : A) (l : List A) → P a → ((j : ℕ) → P (at d l j)) → (j : ℕ) → P (at d (a ∷ l) j)
  unfolding at
  first-every P a l f g zero = f
  first-every P a l f g (suc j) = g j

  pub replicate-every : (P : A → Type 0) (n : ℕ) (a : A) → P a → P d → (j : ℕ) → P (at d (replicate n a) j)
  unfolding at
  replicate-every P zero a p q j = q
  replicate-every P (suc n) a p q zero = p
  replicate-every P (suc n) a p q (suc j) = replicate-every P n a p q j

  -- past a list that is filled up with the default
  pub at-filled : (l : List A) (n i : ℕ) → length l ≤ i → at d (l ++ replicate n d) i ≡ d
  unfolding at
  at-filled [] n i h = at_default d n i
  at-filled (x ∷ l) n zero h = absurd (omega arith)
  at-filled (x ∷ l) n (suc i) h = at-filled l n i (omega arith)
