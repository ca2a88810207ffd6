-- Lines one after another, and the numbers of a line.
use Prim.Native.Nat.{ℕ, zero, suc, ◌+◌, ◌≤◌, ◌<◌}
use mathlib.Core.Path.{◌≡◌, refl, sym, ap, ◌∙◌}
use mathlib.Core.List.{List, [], ◌∷◌, ◌++◌, append_assoc, append-nil}
use native.Mathlib.Nat.{add-zero}
use native.Mathlib.Omega.{arith}
use Rattle.model.specs.Report.{decimal, fields, lines}

pub lines-last : (n i : ℕ) (f : ℕ → List ℕ) → lines (suc n) i f ≡ lines n i f ++ f (i + n)
unfolding lines
lines-last zero i f = append-nil (f i) ∙ ap f (sym (add-zero i))
lines-last (suc n) i f =
    let e : suc i + n ≡ i + suc n = omega arith in
    ap (λ (x : List ℕ). f i ++ x) (lines-last n (suc i) f)
    ∙ sym (append_assoc (f i) (lines n (suc i) f) (f (suc i + n)))
    ∙ ap (λ (x : ℕ). f i ++ lines n (suc i) f ++ f x) e

-- lines that are equal one by one
pub lines_equal : (n i : ℕ) (f g : ℕ → List ℕ) → ((k : ℕ) → i ≤ k → k < i + n → f k ≡ g k) → lines n i f ≡ lines n i g
unfolding lines
lines_equal zero i f g e = refl
lines_equal (suc n) i f g e =
    let first : f i ≡ g i = e i (omega arith) (omega arith) in
    let others : lines n (suc i) f ≡ lines n (suc i) g = lines_equal n (suc i) f g (λ k low high. e k (omega arith) (omega arith)) in
    cc

-- numbers, each after its space
abbrev pub spaced : List ℕ → List ℕ
spaced [] = []
spaced (v ∷ l) = 0x20 ∷ (decimal v ++ spaced l)

pub spaced-last : (l : List ℕ) (v : ℕ) → spaced (l ++ (v ∷ [])) ≡ spaced l ++ (0x20 ∷ decimal v)
spaced-last [] v = ap (λ (x : List ℕ). 0x20 ∷ x) (append-nil (decimal v))
spaced-last (a ∷ l) v =
    ap (λ (x : List ℕ). 0x20 ∷ (decimal a ++ x)) (spaced-last l v)
    ∙ ap (λ (x : List ℕ). 0x20 ∷ x) (sym (append_assoc (decimal a) (spaced l) (0x20 ∷ decimal v)))

-- with the line's end
pub spaced_end : (l : List ℕ) → spaced l ++ (0x0A ∷ []) ≡ fields l
unfolding fields
spaced_end [] = refl
spaced_end (a ∷ l) =
    ap (λ (x : List ℕ). 0x20 ∷ x) (append_assoc (decimal a) (spaced l) (0x0A ∷ []) ∙ ap (λ (x : List ℕ). decimal a ++ x) (spaced_end l))
