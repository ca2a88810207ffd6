-- The bits of a mask, from the lowest on.
use Rattle.std.specs.Prelude.{ℕ, ◌≡◌, ◌<◌, ◌-◌, Option, MatchOption, bit_and}
use Rattle.std.specs.Int.Count.{count_trailing_zeros}

-- a mask with bits gives its lowest one and leaves the others; one without gives none
abbrev pub NextBit : ℕ → Option ℕ → ℕ → Type 0
NextBit mask r left =
    MatchOption r (mask ≡ 0) (λ b. (0 < mask) × (b ≡ count_trailing_zeros 32 mask) × (left ≡ bit_and mask (mask - 1)))
