-- Reading the shared memory, seen in the model's memory.
use Prim.Native.Nat.{ℕ, zero, suc, ◌+◌, ◌*◌, ◌≤◌, ◌<◌}
use mathlib.Core.Path.{◌≡◌, refl, sym, ap, ◌∙◌}
use mathlib.Core.List.{List, [], ◌∷◌, map}
use native.Mathlib.Nat.{mul-le-mul_left}
use native.Mathlib.Omega.{arith}
use lib.ListN.{length}
use Rattle.model.specs.Lists.{at}
use Rattle.model.specs.Word.{fresh_word}
use Rattle.model.proofs.Lists.{at_map, at-past}
use Rattle.model.proofs.Fit.Elements.{below?}
use Rattle.state.specs.Packed.{unpack}
use Rattle.state.specs.Rows.{rows}
use Rattle.state.proofs.Rows.{at_row, at_rows, length-rows}

-- below the length the default does not count
pub at_below : {A : Type 0} (d e : A) (l : List A) (i : ℕ) → i < length l → at d l i ≡ at e l i
unfolding at
at_below d e [] i h = absurd (omega arith)
at_below d e (x ∷ l) zero h = refl
at_below d e (x ∷ l) (suc i) h = at_below d e l i (omega arith)

pub length-map : {A B : Type 0} (f : A → B) (l : List A) → length (map f l) ≡ length l
length-map f [] = refl
length-map f (x ∷ l) = ap suc (length-map f l)

-- a cell that there is
pub cell_at : (cells : List ℕ) (c : ℕ) → c < length cells → at (fresh_word 0) (map unpack cells) c ≡ unpack (at 0 cells c)
cell_at cells c h = at_below (fresh_word 0) (unpack 0) (map unpack cells) c (rw (length-map unpack cells) h) ∙ at_map unpack 0 cells c

-- past the last row there is none
pub past-rows : (n k p : ℕ) (l : List ℕ) → k ≤ p → at [] (rows n k l) p ≡ []
past-rows n k p l h = at-past [] (rows n k l) p (rw (length-rows n k l) h)

none-at : (i : ℕ) → ◌≡◌ {A = ℕ} (at 0 [] i) 0
unfolding at
none-at i = refl

-- element i of row p, also past the last row
pub rows_at : (n k p i : ℕ) (l : List ℕ) → length l ≡ n * k → i < n → at 0 (at [] (rows n k l) p) i ≡ at 0 l (n * p + i)
rows_at n k p i l e h =
    below? p k
    (λ b. ap (λ (r : List ℕ). at 0 r i) (at_rows n k p l b) ∙ at_row 0 n p i l h)
    (λ m. ap (λ (r : List ℕ). at 0 r i) (past-rows n k p l m)
    ∙ none-at i
    ∙ sym (at-past 0 l (n * p + i) (omega (arith, mul-le-mul_left n m))))
