-- The rule that a command breaks, those of lower numbers being kept: refusals 4 to 8.
use Rattle.std.specs.Prelude.{◌≡◌, true, false}
use Rattle.model.specs.Refusal.{Refusal, misplaced, ceiling_passed, out_of_range, word_repeated, releases_not_rising}
use Rattle.model.specs.Command.{Command}
use Rattle.model.specs.Fault.{Known, in_place, under_ceiling, in_range, new_word, rising}

pub data Broken (k : Known) (c : Command) : Refusal → Type 0 where
  -- 4
  place : in_place k c ≡ false → Broken k c misplaced
  -- 5
  ceiling : in_place k c ≡ true → under_ceiling k c ≡ false → Broken k c ceiling_passed
  -- 6
  range : in_place k c ≡ true → under_ceiling k c ≡ true → in_range k.counts c ≡ false → Broken k c out_of_range
  -- 7
  repeated : in_place k c ≡ true → under_ceiling k c ≡ true → in_range k.counts c ≡ true → new_word k.body c ≡ false
      → Broken k c word_repeated
  -- 8
  falling :
      in_place k c ≡ true → under_ceiling k c ≡ true → in_range k.counts c ≡ true → new_word k.body c ≡ true
      → rising k c ≡ false
      → Broken k c releases_not_rising
