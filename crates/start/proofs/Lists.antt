-- A list filled up to a length, and a copy of a list over another, each with one element more.
use Prim.Native.Nat.{ℕ, suc, ◌+◌, ◌-◌, ◌<◌}
use mathlib.Core.Path.{◌≡◌, sym, ap, ◌∙◌}
use mathlib.Core.List.{List, [], ◌∷◌, ◌++◌, append-nil}
use native.Mathlib.Numerals.{add-one}
use native.Mathlib.Nat.{zero-add, suc-add}
use native.Mathlib.Omega.{arith}
use lib.ListN.{length, get_or, set, take, drop, replicate, length-append}
use lib.Seq.{take-suc, take_all, drop-length, set_at, append_snoc, paste, paste-suc}
use Rattle.model.specs.Lists.{at, replace}
use Rattle.model.specs.Start.{filled}

module _ {A : Type 0} where
  pub first_next : (d : A) (l : List A) (i : ℕ) → i < length l → take (i + 1) l ≡ take i l ++ (get_or l i d ∷ [])
  first_next d l i h = rw add-one (take-suc l i d h)

  -- the first free place takes the next element
  pub filled_next : (n : ℕ) (d : A) (l : List A) (i : ℕ) (x : A) → length l ≡ i → i < n → replace (filled n d l) i x ≡ filled n d (l ++ (x ∷ []))
  unfolding filled replace
  filled_next n d l i x e h =
      let k : ℕ = n - suc i in
      let before : n - length l ≡ suc k = omega arith in
      let after : n - length (l ++ (x ∷ [])) ≡ k = omega (arith, length-append l (x ∷ [])) in
      rw (before, after) (set_at l d (replicate k d) x i e ∙ sym (append_snoc l x (replicate k d)))

  pub paste-next : (d : List A) (s : List A) (k : ℕ) (z x : A) → k < length d → k < length s → x ≡ at z s k
      → replace (paste d 0 s k) k x ≡ paste d 0 s (k + 1)
  unfolding at replace
  paste-next d s k z x hd hs e =
      let here : 0 + k ≡ k = omega arith in
      rw (e, add-one) (ap (λ (i : ℕ). set (paste d 0 s k) i (get_or s k z)) (sym here) ∙ paste-suc d 0 s k z (rw here hd) hs)

  pub paste-whole : (d s : List A) (n : ℕ) → length d ≡ n → length s ≡ n → paste d 0 s n ≡ s
  paste-whole d s n ed es = rw (zero-add n, take_all n s (omega arith), nothing_left) (append-nil s)
    where
      nothing_left : drop n d ≡ []
      nothing_left = rw (← ed) (drop-length d)

  pub replace-behind : (l r : List A) (n i : ℕ) (a : A) → length l ≡ n → replace (l ++ r) (n + i) a ≡ l ++ replace r i a
  unfolding replace
  replace-behind l r n i a e = rw (← e) (go l)
    where
      go : (l : List A) → set (l ++ r) (length l + i) a ≡ l ++ set r i a
      go [] = rw (zero-add i)
      go (x ∷ l) = rw (suc-add (length l) i) (ap (λ (z : List A). x ∷ z) (go l))
