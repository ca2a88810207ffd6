-- What a packed word holds, and that two packed words are equal exactly when all four fields are.
use Prim.Native.Nat.{ℕ, ◌+◌, ◌*◌, ◌/◌, ◌%◌, ◌<◌}
use mathlib.Core.Path.{◌≡◌, refl, sym, ◌∙◌}
use mathlib.Core.Bool.{Bool, true, false, ◌&&◌}
use native.Mathlib.Omega.{arith}
use lib.Dec.{eqb}
use borrow.Author.Tests.{eq-eqb, eqb-true, eqb-false}
use Rattle.model.specs.Word.{Word, same_mark, same_word}
use Rattle.model.proofs.Lists.{test?}
use Rattle.state.specs.Packed.{packed, unpack, valid_bit}

abbrev word : ℕ → ℕ → Bool → ℕ → Word
word v c b t = record { value = v; count = c; valid = b; task = t }

pub unpack-packed : (v c : ℕ) (b : Bool) (t : ℕ) → v < 4294967296 → c < 8 → unpack (packed v c b t) ≡ word v c b t
unfolding packed unpack
unpack-packed v c b t hv hc =
    let x : ℕ = v + 4294967296 * (c % 8) + valid_bit b + 68719476736 * t in
    let whole : c % 8 ≡ c = omega arith in
    let mark = marked b in
    let m : ℕ = mark.0 in
    let value : x % 4294967296 ≡ v = omega (arith, mark.1) in
    let above : x / 4294967296 ≡ c + 8 * (m + 2 * t) = omega (arith, mark.1) in
    let top : x / 34359738368 ≡ m + 2 * t = omega (arith, mark.1) in
    let task : x / 68719476736 ≡ t = omega (arith, mark.1, mark.2) in
    rw (value, above, eighth c (m + 2 * t) hc, top, half m t mark.2, task, mark.3)
  where
    marked : (b : Bool) → (m : ℕ) × (valid_bit b ≡ 34359738368 * m) × (m < 2) × (eqb m 1 ≡ b)
    marked true = (1, refl, omega arith, refl)
    marked false = (0, refl, omega arith, refl)

    eighth : (c y : ℕ) → c < 8 → (c + 8 * y) % 8 ≡ c
    eighth c y h = omega arith

    half : (m y : ℕ) → m < 2 → (m + 2 * y) % 2 ≡ m
    half m y h = omega arith

same_parts : (c d : ℕ) → c % 4294967296 ≡ d % 4294967296 → c / 4294967296 % 8 ≡ d / 4294967296 % 8 → c / 34359738368 % 2 ≡ d / 34359738368 % 2
    → c / 68719476736 ≡ d / 68719476736 → c ≡ d
same_parts c d e1 e2 e3 e4 =
    let high : c / 34359738368 ≡ d / 34359738368 = halves (c / 34359738368) (d / 34359738368) e3 (sym (split c).1 ∙ e4 ∙ (split d).1) in
    let middle : c / 4294967296 ≡ d / 4294967296 = eighths (c / 4294967296) (d / 4294967296) e2 (sym (split c).0 ∙ high ∙ (split d).0) in
    omega arith
  where
    halves : (x y : ℕ) → x % 2 ≡ y % 2 → x / 2 ≡ y / 2 → x ≡ y
    halves x y p q = omega arith

    eighths : (x y : ℕ) → x % 8 ≡ y % 8 → x / 8 ≡ y / 8 → x ≡ y
    eighths x y p q = omega arith

    split : (x : ℕ) → (x / 34359738368 ≡ x / 4294967296 / 8) × (x / 68719476736 ≡ x / 34359738368 / 2)
    split x = (omega arith, omega arith)

both : (a b : Bool) → a && b ≡ true → (a ≡ true) × (b ≡ true)
both true b e = (refl, e)
both false b e = let z : ◌≡◌ {A = ℕ} 0 1 = cc in absurd (omega arith)

marks : (a b : Bool) → same_mark a b ≡ true → a ≡ b
marks true b e = sym e
marks false false e = refl
marks false true e = e

mark_refl : (b : Bool) → same_mark b b ≡ true
mark_refl true = refl
mark_refl false = refl

-- the valid mark is a bit
bits : (x y : ℕ) → x < 2 → y < 2 → eqb x 1 ≡ eqb y 1 → x ≡ y
bits x y hx hy e = test? (eqb x 1) (λ a. let p = eqb-true x 1 a in let q = eqb-true y 1 (sym e ∙ a) in omega arith)
    (λ a. let p = eqb-false x 1 a in let q = eqb-false y 1 (sym e ∙ a) in omega arith)

pub same_refl : (w : Word) → same_word w w ≡ true
unfolding same_word
same_refl w = rw (eq-eqb w.value w.value refl, eq-eqb w.count w.count refl, mark_refl w.valid, eq-eqb w.task w.task refl)

-- equal in all four fields is equal as packed
pub same-packed : (a b : ℕ) → same_word (unpack a) (unpack b) ≡ eqb a b
unfolding same_word unpack
same-packed a b = test? (eqb a b) (λ e. rw (eqb-true a b e, eq-eqb b b refl) (same_refl (unpack b)))
    (λ e. test? (same_word (unpack a) (unpack b)) (λ s. absurd (eqb-false a b e (parts s))) (λ s. s ∙ sym e))
  where
    mod-lt : (x : ℕ) → x % 2 < 2
    mod-lt x = omega arith

    parts : same_word (unpack a) (unpack b) ≡ true → a ≡ b
    parts s =
        let task = both _ _ s in
        let valid = both _ _ task.0 in
        let values = both _ _ valid.0 in
        let bit : a / 34359738368 % 2 ≡ b / 34359738368 % 2 = bits _ _ (mod-lt _) (mod-lt _) (marks _ _ valid.1) in
        same_parts a b (eqb-true _ _ values.0) (eqb-true _ _ values.1) bit (eqb-true _ _ task.1)
