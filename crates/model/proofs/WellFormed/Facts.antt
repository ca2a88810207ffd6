-- Every element of a list, the different numbers of a list, and which counts the range of an operand looks at.
use Prim.Native.Nat.{ℕ, suc, ◌+◌, ◌≤◌}
use mathlib.Core.Path.{◌≡◌, refl, sym, ◌∙◌, ap}
use mathlib.Core.Bool.{true, false}
use mathlib.Core.List.{List, [], ◌∷◌, ◌++◌, map, append_assoc}
use native.Mathlib.Omega.{arith}
use lib.ListN.{length, length-append}
use Rattle.model.specs.Command.{GET, PUT, READ, PAIR, SWAP, BEGIN, access, COMMIT, BodyCommand, LOAD, ADD, outside, inside}
use Rattle.model.specs.Fault.{SheetCounts, among, include_by, include, in_range_outside, in_range_inside, in_range_body}
use Rattle.model.specs.WellFormed.{Each, different_from}
use Rattle.model.proofs.Lists.{test?}

-- EVERY ELEMENT
module _ {A : Type 0} (P : A → Type 0) where
  pub each_left : (l r : List A) → Each P (l ++ r) → Each P l
  each_left [] r e = tt
  each_left (x ∷ l) r e = (e.0, each_left l r e.1)

  pub each_right : (l r : List A) → Each P (l ++ r) → Each P r
  each_right [] r e = e
  each_right (x ∷ l) r e = each_right l r e.1

  pub each_map : {B : Type 0} (f : B → A) (l : List B) → Each P (map f l) → Each (λ b. P (f b)) l
  each_map f [] e = tt
  each_map f (x ∷ l) e = (e.0, each_map f l e.1)

-- DIFFERENT NUMBERS
-- one more, or none
pub include-new : (x : ℕ) (l : List ℕ) → among x l ≡ false → include x l ≡ l ++ (x ∷ [])
unfolding include_by
include-new x l e = rw e refl

include-old : (x : ℕ) (l : List ℕ) → among x l ≡ true → include x l ≡ l
unfolding include_by
include-old x l e = rw e refl

include-bounds : (x : ℕ) (l : List ℕ) → (length l ≤ length (include x l)) × (length (include x l) ≤ suc (length l))
include-bounds x l =
    test? (among x l)
    (λ e. rw (include-old x l e) (omega arith))
    (λ e. rw (include-new x l e) (omega (arith, length-append l (x ∷ []))))

pub different_least : (seen l : List ℕ) → length seen ≤ length (different_from seen l)
unfolding different_from
different_least seen [] = omega arith
different_least seen (x ∷ l) = omega (arith, different_least (include x seen) l, include-bounds x seen)

different-most : (seen l : List ℕ) → length (different_from seen l) ≤ length seen + length l
unfolding different_from
different-most seen [] = omega arith
different-most seen (x ∷ l) = omega (arith, different-most (include x seen) l, include-bounds x seen)

-- a list of different numbers, one by one
pub different-new : (x : ℕ) (seen l : List ℕ) → different_from seen (x ∷ l) ≡ seen ++ (x ∷ l) → among x seen ≡ false
unfolding different_from
different-new x seen l e =
    test? (among x seen)
    (λ t.
    let same : different_from seen l ≡ seen ++ (x ∷ l) = rw (include-old x seen t) at e in
    absurd (omega (arith, ap length same, different-most seen l, length-append seen (x ∷ l))))
    (λ f. f)

pub different-rest : (x : ℕ) (seen l : List ℕ) → different_from seen (x ∷ l) ≡ seen ++ (x ∷ l)
    → different_from (seen ++ (x ∷ [])) l ≡ seen ++ (x ∷ []) ++ l
unfolding different_from
different-rest x seen l e = rw (← include-new x seen (different-new x seen l e)) e ∙ sym (append_assoc seen (x ∷ []) l)

-- THE RANGE OF AN OPERAND: in a body it goes by the numbers of words and blocks
pub range-body : (n m : SheetCounts) (c : BodyCommand) → n.words ≡ m.words → n.blocks ≡ m.blocks → in_range_body n c ≡ in_range_body m c
unfolding in_range_body in_range_outside in_range_inside
range-body n m (LOAD r v) e f = refl
range-body n m (ADD r q) e f = refl
range-body n m (outside (READ r w)) e f = rw e refl
range-body n m (outside (PAIR w old new)) e f = rw e refl
range-body n m (outside (SWAP r)) e f = refl
range-body n m (outside BEGIN) e f = refl
range-body n m (inside (access (GET r b o))) e f = rw f refl
range-body n m (inside (access (PUT b o r))) e f = rw f refl
range-body n m (inside COMMIT) e f = refl
