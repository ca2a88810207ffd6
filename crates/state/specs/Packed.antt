-- A word as one number, the unbounded field on top, so that words with equal fields are equal numbers.
use Rattle.std.specs.Prelude.{ℕ, ◌+◌, ◌*◌, ◌/◌, ◌%◌, Bool, true, false, eqb}
use Rattle.model.specs.Word.{Word}
use Rattle.state.specs.declared.Word.{Word as Unpacked}

-- a word starts valid, with count 0 and task 0
abbrev pub fresh : ℕ → Unpacked
fresh v = record { value = v; count = 0; valid = true; task = 0 }

abbrev pub valid_bit : Bool → ℕ
valid_bit true = 34359738368
valid_bit false = 0

unfoldable pub packed : ℕ → ℕ → Bool → ℕ → ℕ
packed value count valid task = value + 4294967296 * (count % 8) + valid_bit valid + 68719476736 * task

abbrev pub value_of : ℕ → ℕ
value_of w = w % 4294967296

abbrev pub count_of : ℕ → ℕ
count_of w = w / 4294967296 % 8

abbrev pub valid_of : ℕ → Bool
valid_of w = eqb (w / 34359738368 % 2) 1

abbrev pub task_of : ℕ → ℕ
task_of w = w / 68719476736

-- the word that a number holds
unfoldable pub unpack : ℕ → Word
unpack w = record { value = value_of w; count = count_of w; valid = valid_of w; task = task_of w }
