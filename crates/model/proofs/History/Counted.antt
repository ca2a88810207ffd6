-- The operations of a history that count, as a list: each once, and no other.
use Prim.Native.Nat.{ℕ, zero, suc, ◌+◌, ◌≤◌}
use mathlib.Core.Bool.{Bool, true, false, false≢true}
use mathlib.Core.Path.{◌≡◌, refl}
use mathlib.Core.Logic.{inl, inr}
use mathlib.Core.List.{List, [], ◌∷◌}
use mathlib.Core.Option.{Option, none}
use native.Mathlib.Omega.{arith}
use Rattle.model.specs.Lists.{at, In}
use Rattle.model.specs.History.{Operation}
use Rattle.model.specs.Claim.{counted_by, Once}
use Rattle.model.proofs.WholeCases.{listed_by, counted_from}

counted_below : (i : ℕ) (l : List (Option Operation)) (b : ℕ) → In b (counted_from i l) → i ≤ b
unfolding counted_from listed_by
counted_below i [] b n = elim n [ ]
counted_below i (o ∷ l) b n = go (counted_by o) n (counted_below (suc i) l b)
  where
    go : (t : Bool) → In b (listed_by t i (counted_from (suc i) l)) → (In b (counted_from (suc i) l) → suc i ≤ b) → i ≤ b
    go true (inl e) f = omega arith
    go true (inr n) f = let x = f n in omega arith
    go false n f = let x = f n in omega arith

pub counted-once : (i : ℕ) (l : List (Option Operation)) → Once (counted_from i l)
unfolding counted_from listed_by
counted-once i [] = tt
counted-once i (o ∷ l) = go (counted_by o) (counted-once (suc i) l)
  where
    go : (t : Bool) → Once (counted_from (suc i) l) → Once (listed_by t i (counted_from (suc i) l))
    go true f = (λ n. let x = counted_below (suc i) l i n in omega arith, f)
    go false f = f

pub in_counted : (i : ℕ) (l : List (Option Operation)) (a b : ℕ) → i + a ≡ b → counted_by (at none l a) ≡ true → In b (counted_from i l)
unfolding at counted_from listed_by
in_counted i [] a b s e = absurd (false≢true e)
in_counted i (o ∷ l) zero b s e = rw e (inl (omega arith))
in_counted i (o ∷ l) (suc a) b s e = go (counted_by o) (in_counted (suc i) l a b (omega arith) e)
  where
    go : (c : Bool) → In b (counted_from (suc i) l) → In b (listed_by c i (counted_from (suc i) l))
    go true h = inr h
    go false h = h

pub counted-counts : (i : ℕ) (l : List (Option Operation)) (a b : ℕ) → i + a ≡ b → In b (counted_from i l) → counted_by (at none l a) ≡ true
unfolding at counted_from listed_by
counted-counts i [] a b s n = elim n [ ]
counted-counts i (o ∷ l) zero b s n = go (counted_by o) n
  where
    go : (t : Bool) → In b (listed_by t i (counted_from (suc i) l)) → t ≡ true
    go true n = refl
    go false n = absurd (let x = counted_below (suc i) l b n in omega arith)
counted-counts i (o ∷ l) (suc a) b s n = counted-counts (suc i) l a b (omega arith) (go (counted_by o) n)
  where
    go : (t : Bool) → In b (listed_by t i (counted_from (suc i) l)) → In b (counted_from (suc i) l)
    go true (inl e) = absurd (omega arith)
    go true (inr n) = n
    go false n = n
