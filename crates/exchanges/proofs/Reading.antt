-- The rule for the current value over packed words is the model's.
use Rattle.std.proofs.Common.{◌≡◌, ℕ, ◌%◌, ◌<◌, length, refl, arith}
use Rattle.model.specs.Word.{saved, own}
use Rattle.state.specs.Packed.{unpack, count_of, task_of}
use Rattle.state.specs.Rows.{rows}
use Rattle.state.specs.State.{Shared}
use Rattle.state.proofs.Held.{rows_at}
use Rattle.exchanges.specs.Reading.{owned, saved_for}

-- the word's own value counts
pub own-unpack : (m : Shared) (w : ℕ) → own m.status (unpack w) ≡ owned m w
unfolding own owned unpack
own-unpack m w = refl

eighth : (w : ℕ) → w % 8 < 8
eighth w = omega arith

-- the save place of a word's task and count
pub saved-for : (m : Shared) (w : ℕ) → length m.saves ≡ 64 → saved (rows 8 8 m.saves) (unpack w).task (unpack w).count ≡ saved_for m w
unfolding unpack
saved-for m w e = rows_at 8 8 (task_of w) (count_of w) m.saves e (eighth _)
