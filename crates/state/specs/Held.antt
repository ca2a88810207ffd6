-- The model's memory that the shared memory holds: packed cells, save places and stores in rows of eight; and the model's blocks of a
-- transaction that a task's record holds.
use Rattle.std.specs.Prelude.{ℕ, zero, suc, ◌/◌, ◌%◌, ◌^◌, Bool, true, false, List, [], ◌∷◌, map, eqb}
use Rattle.model.specs.Lists.{at}
use Rattle.model.specs.Word.{Memory, memory}
use Rattle.model.specs.Job.{Touched, untouched, remembered, copied}
use Rattle.state.specs.Packed.{unpack}
use Rattle.state.specs.Rows.{rows}
use Rattle.state.specs.State.{Shared, Blocks}

abbrev pub memory_of : Shared → Memory
memory_of m = memory (map unpack m.cells) m.status (rows 8 8 m.saves) (rows 8 48 m.stores)

-- whether a mask has block b
abbrev pub touched_in : ℕ → ℕ → Bool
touched_in mask b = eqb (mask / 2 ^ b % 2) 1

-- a block by whether it is touched, its slot and the value remembered
abbrev pub touched_of : Bool → ℕ → ℕ → Touched
touched_of false slot v = untouched
touched_of true zero v = remembered v
touched_of true (suc k) v = copied v k

abbrev pub block_at : Blocks → ℕ → Touched
block_at x b = touched_of (touched_in x.touched b) (at 0 x.slots b) (at 0 x.remembered b)

-- n blocks from number b on
unfoldable pub blocks_from : ℕ → Blocks → ℕ → List Touched
unfolding at
blocks_from zero x b = []
blocks_from (suc n) x b = block_at x b ∷ blocks_from n x (suc b)

abbrev pub blocks_of : Blocks → List Touched
blocks_of x = blocks_from 16 x 0
