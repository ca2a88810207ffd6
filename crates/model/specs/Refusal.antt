-- When a sheet or a call is turned down: document 01's ten refusals, document 02's, and their numbers.
use Rattle.std.specs.Prelude.{ℕ}

pub data Refusal : Type 0 where
  no_command : Refusal
  cut_short : Refusal
  byte_after_end : Refusal
  misplaced : Refusal
  ceiling_passed : Refusal
  out_of_range : Refusal
  word_repeated : Refusal
  releases_not_rising : Refusal
  limit_too_high : Refusal
  buffer_too_short : Refusal
  buffer_full : Refusal

abbrev pub number : Refusal → ℕ
number no_command = 1
number cut_short = 2
number byte_after_end = 3
number misplaced = 4
number ceiling_passed = 5
number out_of_range = 6
number word_repeated = 7
number releases_not_rising = 8
number limit_too_high = 9
number buffer_too_short = 10
number buffer_full = 11
