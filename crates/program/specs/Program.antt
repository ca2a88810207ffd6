-- The program of a sheet: the commands of its bodies, one behind the other, and the line where each body starts.
use Rattle.std.specs.Prelude.{ℕ, suc, ◌-◌, ◌<◌, ◌≤◌, ◌≡◌, List, [], map, length, take, drop}
use Rattle.model.specs.Ceilings.{max_commands}
use Rattle.model.specs.Lists.{at}
use Rattle.model.specs.Command as M
use Rattle.model.specs.Sheet.{sheet_of}
use Rattle.commands.specs.View.{view_body_command}
use Rattle.commands.specs.declared.BodyCommand.{BodyCommand}

-- the commands from one line up to another
unfoldable pub commands_in : List BodyCommand → ℕ → ℕ → List M.BodyCommand
commands_in program from end = map view_body_command (take (end - from) (drop from program))

-- body p lies from its bound up to the next
abbrev pub body_in : List BodyCommand → List ℕ → ℕ → List M.BodyCommand
body_in program bounds p = commands_in program (at 0 bounds p) (at 0 bounds (suc p))

-- the program and the bounds hold the bodies of a sheet
pub record Programmed (sheet : List ℕ) (program : List BodyCommand) (bounds : List ℕ) : Type 0 where
  pub size : length program ≡ max_commands
  pub within : (p : ℕ) → p < length (sheet_of sheet).bodies → at 0 bounds (suc p) ≤ max_commands
  pub bodies : (p : ℕ) → p < length (sheet_of sheet).bodies → body_in program bounds p ≡ at [] (sheet_of sheet).bodies p
