-- What a tick of READ leaves, over the shared memory.
use Rattle.std.specs.Prelude.{ℕ, ◌+◌, ◌*◌, Bool, ◌||◌, ◌==◌}
use Rattle.model.specs.Lists.{at}
use Rattle.state.specs.Packed.{value_of, count_of, valid_of, task_of}
use Rattle.state.specs.State.{Shared}
use Rattle.exchanges.specs.Places.{if}
use Rattle.exchanges.specs.declared.read.Reading.{Reading}
use Rattle.exchanges.specs.declared.read.Reading.TheVariants.{Load, Look, Fetch}
use Rattle.exchanges.specs.declared.read.Read.{Read}
use Rattle.exchanges.specs.declared.read.Read.TheVariants.{Reads, Gives}

-- the word's own value counts
unfoldable pub owned : Shared → ℕ → Bool
owned m word = valid_of word || at 0 m.status (task_of word) == 2

-- the save place of a word's task and count
abbrev pub saved_for : Shared → ℕ → ℕ
saved_for m word = at 0 m.saves (8 * task_of word + count_of word)

-- the current value of a cell: its word's own value if that counts, else the save place
unfoldable pub current_in : Shared → ℕ → ℕ
unfolding owned
current_in m cell =
    let w = at 0 m.cells cell in
    if (owned m w) (value_of w) (saved_for m w)

unfoldable pub after_look : Shared → ℕ → Read
after_look m word = if (owned m word) (Gives (value_of word)) (Reads (Fetch word))

unfoldable pub after_reading : Shared → ℕ → Reading → Read
unfolding after_look
after_reading m cell Load = Reads (Look (at 0 m.cells cell))
after_reading m cell (Look word) = after_look m word
after_reading m cell (Fetch word) = Gives (saved_for m word)
