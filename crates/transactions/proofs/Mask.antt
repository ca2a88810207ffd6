-- The mask of touched blocks: its lowest block taken off, and one more put in.
use Rattle.std.proofs.Common.{◌≡◌, ℕ, zero, suc, ◌+◌, ◌-◌, ◌*◌, ◌/◌, ◌%◌, ◌^◌, ◌<◌, ◌≤◌, min, true, eqb, ◌≢◌, ◌⊎◌, List, [], ◌∷◌, sym, refl, ap, ◌∙◌, inl, inr, mod-lt, mod-eq_of_lt, one-mul, pow-suc, div-one, arith, lit<, pow_pos, pow-add}
use native.Mathlib.Nat.{div-div-eq-div-mul, min-zero, zero-min}
use native.Mathlib.Nat.{div_self, div-eq_of_lt, mul-div_cancel_left}
use lib.Bits.{bit_and, and_step, and_self, and_le_r, bit_or, or_shr, or_mod, or_zero_r}
use lib.Count.{count_trailing_zeros}
use lib.Pow.{pow-lt}
use Rattle.model.proofs.Fit.Elements.{below?}
use Rattle.state.specs.Held.{touched_in}
use Rattle.exchanges.specs.Places.{if}
use Rattle.transactions.specs.Blocks.{touched_from}

-- the touched blocks from number b on, by digits, the lowest digit that block's
unfoldable digits_from : ℕ → ℕ → ℕ → List ℕ
digits_from zero m b = []
digits_from (suc n) m b = if (eqb (m % 2) 1) (b ∷ digits_from n (m / 2) (suc b)) (digits_from n (m / 2) (suc b))

half : (m b : ℕ) → m / 2 ^ suc b ≡ m / 2 ^ b / 2
half m b = ap (λ (k : ℕ). m / k) (pow-suc 2 b) ∙ sym (div-div-eq-div-mul m (2 ^ b) 2)

by_digits : (n m b : ℕ) → touched_from n m b ≡ digits_from n (m / 2 ^ b) b
unfolding touched_from digits_from
by_digits zero m b = refl
by_digits (suc n) m b = rw (by_digits n m (suc b), half m b)

-- the mask without its lowest block
less_digit : (m : ℕ) → bit_and m (m - 1) ≡ bit_and (m / 2) ((m - 1) / 2) * 2 + min (m % 2) ((m - 1) % 2)
less_digit m = and_step m (m - 1)

lowest_odd : (m : ℕ) → m % 2 ≡ 1 → bit_and m (m - 1) ≡ m / 2 * 2
lowest_odd m o =
    let h : (m - 1) / 2 ≡ m / 2 = omega arith in
    let z : (m - 1) % 2 ≡ 0 = omega arith in
    less_digit m ∙ rw (h, o, z, and_self (m / 2), min-zero 1) (omega arith)

lowest_even : (m : ℕ) → 0 < m → m % 2 ≡ 0 → bit_and m (m - 1) ≡ bit_and (m / 2) (m / 2 - 1) * 2
lowest_even m p e =
    let h : (m - 1) / 2 ≡ m / 2 - 1 = omega arith in
    let z : (m - 1) % 2 ≡ 1 = omega arith in
    less_digit m ∙ rw (h, e, z, zero-min 1) (omega arith)

twice_half : (m : ℕ) → m * 2 / 2 ≡ m
twice_half m = omega arith

twice_even : (m : ℕ) → m * 2 % 2 ≡ 0
twice_even m = omega arith

parity : (m : ℕ) → (m % 2 ≡ 0) ⊎ (m % 2 ≡ 1)
parity m = go (m % 2) refl
  where
    go : (r : ℕ) → m % 2 ≡ r → (m % 2 ≡ 0) ⊎ (m % 2 ≡ 1)
    go zero e = inl e
    go (suc zero) e = inr e
    go (suc (suc r)) e = absurd (omega arith)

lowest_digit : (n k m b : ℕ) → n ≤ k → 0 < m → m < 2 ^ n
    → digits_from n m b ≡ (b + count_trailing_zeros k m) ∷ digits_from n (bit_and m (m - 1)) b
unfolding digits_from count_trailing_zeros
lowest_digit zero k m b h p l = absurd (omega arith)
lowest_digit (suc n) zero m b h p l = absurd (omega arith)
lowest_digit (suc n) (suc k) m b h p l = go (parity m) (lowest_digit n k (m / 2) (suc b) (omega arith))
  where
    go : (m % 2 ≡ 0) ⊎ (m % 2 ≡ 1)
        → (0 < m / 2 → m / 2 < 2 ^ n
        → digits_from n (m / 2) (suc b) ≡ (suc b + count_trailing_zeros k (m / 2)) ∷ digits_from n (bit_and (m / 2) (m / 2 - 1)) (suc b))
        → digits_from (suc n) m b ≡ (b + count_trailing_zeros (suc k) m) ∷ digits_from (suc n) (bit_and m (m - 1)) b
    go (inr o) r =
        let z : b + 0 ≡ b = omega arith in
        rw (lowest_odd m o, o, twice_half (m / 2), twice_even (m / 2), z)
    go (inl e) r =
        let z : b + suc (count_trailing_zeros k (m / 2)) ≡ suc b + count_trailing_zeros k (m / 2) = omega arith in
        let x : ℕ = bit_and (m / 2) (m / 2 - 1) in
        rw (lowest_even m p e, e, twice_half x, twice_even x, z)
        (r (omega arith) (omega (arith, pow-suc 2 n)))

-- the lowest touched block comes first
pub lowest-first : (m : ℕ) → 0 < m → m < 65536
    → touched_from 16 m 0 ≡ count_trailing_zeros 32 m ∷ touched_from 16 (bit_and m (m - 1)) 0
lowest-first m p l =
    let first = lowest_digit 16 32 m 0 (omega arith) p l in
    let place : 0 + count_trailing_zeros 32 m ≡ count_trailing_zeros 32 m = omega arith in
    by_digits 16 m 0 ∙ rw (div-one m, first, place, by_digits 16 (bit_and m (m - 1)) 0, div-one (bit_and m (m - 1)))

pub fewer : (m : ℕ) → 0 < m → bit_and m (m - 1) < m
fewer m p = omega (arith, and_le_r m (m - 1))

-- one bit of sixteen
pub one_bit : (b : ℕ) → 1 * 2 ^ (b % 16) % 65536 ≡ 2 ^ (b % 16)
one_bit b = rw (one-mul (2 ^ (b % 16))) (mod-eq_of_lt (pow-lt {j = 16} (mod-lt b (lit< tt))))

-- ONE MORE PUT IN
-- a digit of two numbers' digits together
or_digit : (m k n : ℕ) → bit_or m k / 2 ^ n % 2 ≡ bit_or (m / 2 ^ n % 2) (k / 2 ^ n % 2)
or_digit m k n = ap (λ (x : ℕ). x % 2) (or_shr m k n) ∙ or_mod (m / 2 ^ n) (k / 2 ^ n) 1

own_digit : (b : ℕ) → 2 ^ b / 2 ^ b % 2 ≡ 1
own_digit b = ap (λ (x : ℕ). x % 2) (div_self (pow_pos b))

other_digit : (b n : ℕ) → n ≢ b → 2 ^ b / 2 ^ n % 2 ≡ 0
other_digit b n d =
    below? b n (λ h. ap (λ (x : ℕ). x % 2) (div-eq_of_lt (pow-lt h)))
    (λ h.
    let more : b ≡ n + suc (b - suc n) = omega arith in
    ap (λ (k : ℕ). 2 ^ k / 2 ^ n % 2) more
    ∙ ap (λ (x : ℕ). x / 2 ^ n % 2) (pow-add 2 n (suc (b - suc n)))
    ∙ ap (λ (x : ℕ). x % 2) (mul-div_cancel_left (2 ^ suc (b - suc n)) (pow_pos n) ∙ pow-suc 2 (b - suc n))
    ∙ twice_even (2 ^ (b - suc n)))

pub bit_in : (m b : ℕ) → touched_in (bit_or m (2 ^ b)) b ≡ true
bit_in m b = rw (or_digit m (2 ^ b) b, own_digit b) (go (parity (m / 2 ^ b)))
  where
    go : (m / 2 ^ b % 2 ≡ 0) ⊎ (m / 2 ^ b % 2 ≡ 1) → eqb (bit_or (m / 2 ^ b % 2) 1) 1 ≡ true
    go (inl e) = rw e
    go (inr e) = rw e

pub bit_other : (m b n : ℕ) → n ≢ b → touched_in (bit_or m (2 ^ b)) n ≡ touched_in m n
bit_other m b n d = rw (or_digit m (2 ^ b) n, other_digit b n d, or_zero_r (m / 2 ^ n % 2))
