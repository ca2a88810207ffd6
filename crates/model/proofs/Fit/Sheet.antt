-- What the check says of an accepted sheet.
use Prim.Native.Nat.{ℕ, ◌+◌, ◌<◌, ◌≤◌}
use mathlib.Core.Path.{◌≡◌}
use mathlib.Core.List.{List, [], ◌∷◌}
use lib.ListN.{length}
use Rattle.model.specs.Lists.{at}
use Rattle.model.specs.Command.{Release, Block, BodyCommand, no_block}
use Rattle.model.specs.Fault.{Known, empty_body}
use Rattle.model.specs.Sheet.{Sheet}
use Rattle.model.proofs.Fit.Body.{Open, Faultless}

-- a body of a sheet with that many words and blocks, without fault from its start
pub record BodyFit (words blocks : ℕ) (l : List BodyCommand) : Type 0 where
  pub known : Known
  pub opened : Open words blocks known
  pub start : known.body ≡ empty_body
  pub faultless : Faultless known l

abbrev pub no_release : Release
no_release = record { tick = 0; task = 0 }

abbrev pub release_at : List Release → ℕ → Release
release_at rs i = at no_release rs i

-- by tick, at equal ticks by task
pub record Rises (a b : Release) : Type 0 where
  pub tick : a.tick ≤ b.tick
  pub task : a.tick ≡ b.tick → a.task < b.task

-- releases to that many tasks, the first of them at tick `now` or later
pub record ReleasesFit (tasks now : ℕ) (rs : List Release) : Type 0 where
  pub task : (i : ℕ) → i < length rs → (release_at rs i).task < tasks
  pub rising : (i j : ℕ) → i < j → j < length rs → Rises (release_at rs i) (release_at rs j)
  pub later : (i : ℕ) → i < length rs → now ≤ (release_at rs i).tick

abbrev pub block_at : List Block → ℕ → Block
block_at bs b = at no_block bs b

-- all body commands
abbrev pub command_count : List (List BodyCommand) → ℕ
command_count [] = 0
command_count (l ∷ ls) = length l + command_count ls

pub record SheetFit (s : Sheet) : Type 0 where
  pub words : length s.words ≤ 32
  pub blocks : length s.blocks ≤ 16
  pub version : (b : ℕ) → b < length s.blocks → (block_at s.blocks b).version ≤ 16777215
  pub values : (b : ℕ) → b < length s.blocks → length (block_at s.blocks b).values ≡ 8
  pub some_body : 1 ≤ length s.bodies
  pub bodies : length s.bodies ≤ 8
  pub body : (p : ℕ) → p < length s.bodies → BodyFit (length s.words) (length s.blocks) (at [] s.bodies p)
  pub commands : command_count s.bodies ≤ 512
  pub most_releases : length s.releases ≤ 256
  pub releases : ReleasesFit (length s.bodies) 0 s.releases
