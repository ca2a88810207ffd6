-- What the helpers ask and give: the memory of a sheet of which only the first words and blocks are declared.
use Rattle.std.specs.Prelude.{ℕ, ◌<◌, ◌≡◌, List, [], length, take}
use Rattle.model.specs.Lists.{replace}
use Rattle.model.specs.Word.{memory}
use Rattle.model.specs.Sheet.{Sheet, sheet_of}
use Rattle.state.specs.State.{Shared}
use Rattle.state.specs.Sized.{SharedSized}
use Rattle.state.specs.Held.{memory_of}
use Rattle.start.specs.Start.{SharedStarts}
use Rattle.start.specs.declared.counts.Counts.{Counts}

-- what the counted sheet declares
abbrev pub sheet_in : Counts → Sheet
sheet_in n = sheet_of n.sheet.bytes.now

abbrev pub nothing : Sheet
nothing = record { words = []; blocks = []; bodies = []; releases = [] }

-- the first words and blocks, that many, and all else
abbrev pub declaring : Sheet → ℕ → ℕ → Sheet
declaring s words blocks =
    record { words = take words s.words; blocks = take blocks s.blocks; bodies = s.bodies; releases = s.releases }

-- the sheet declares block b, and those before it are in the memory
pub record NextBlock (n : Counts) (m : Shared) (b : ℕ) : Type 0 where
  pub declared : b < n.blocks
  pub before : SharedStarts (declaring (sheet_in n) n.words b) m

-- there is such a store, and eight values for it
pub record Before (m : Shared) (store : ℕ) (values : List ℕ) : Type 0 where
  pub sized : SharedSized m
  pub some : store < 48
  pub eight : length values ≡ 8

-- the store has these values, and all else is as before
pub record Stored (m : Shared) (store : ℕ) (values : List ℕ) (r : Shared) : Type 0 where
  pub memory :
      memory_of r ≡ memory (memory_of m).cells (memory_of m).status (memory_of m).saves (replace (memory_of m).stores store values)
  pub sized : SharedSized r
