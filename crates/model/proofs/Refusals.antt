-- The numbers of refusals: each from 1 on, no two the same.
use Prim.Native.Nat.{ℕ, ◌≤◌}
use mathlib.Core.Path.{◌≡◌, refl, sym, ap, ◌∙◌}
use mathlib.Core.List.{[], ◌∷◌}
use native.Mathlib.Omega.{arith}
use lib.ListN.{get_or}
use Rattle.model.specs.Refusal.{Refusal, no_command, cut_short, byte_after_end, misplaced, ceiling_passed, out_of_range, word_repeated, releases_not_rising}
use Rattle.model.specs.Refusal.{limit_too_high, buffer_too_short, buffer_full, number}

pub number-some : (f : Refusal) → 1 ≤ number f
number-some no_command = omega arith
number-some cut_short = omega arith
number-some byte_after_end = omega arith
number-some misplaced = omega arith
number-some ceiling_passed = omega arith
number-some out_of_range = omega arith
number-some word_repeated = omega arith
number-some releases_not_rising = omega arith
number-some limit_too_high = omega arith
number-some buffer_too_short = omega arith
number-some buffer_full = omega arith

-- the refusal of a number
abbrev numbered : ℕ → Refusal
numbered n =
    get_or (no_command ∷ no_command ∷ cut_short ∷ byte_after_end ∷ misplaced ∷ ceiling_passed ∷ out_of_range ∷ word_repeated ∷ releases_not_rising ∷ limit_too_high
    ∷ buffer_too_short ∷ buffer_full ∷ []) n no_command

back : (f : Refusal) → numbered (number f) ≡ f
back no_command = refl
back cut_short = refl
back byte_after_end = refl
back misplaced = refl
back ceiling_passed = refl
back out_of_range = refl
back word_repeated = refl
back releases_not_rising = refl
back limit_too_high = refl
back buffer_too_short = refl
back buffer_full = refl

pub same_number : (f g : Refusal) → number f ≡ number g → f ≡ g
same_number f g e = sym (back f) ∙ ap numbered e ∙ back g
