-- A command handed over by its byte and its operands: BLOCK's values among them, and END for no command.
use Rattle.std.specs.Prelude.{ℕ, ◌≡◌, List, [], ◌∷◌, get_or, Option, Some, None, Result}
use Rattle.std.proofs.Math.Option.{none, some}
use Rattle.std.proofs.Math.Option as O
use Rattle.model.specs.Command as C
use Rattle.model.specs.Builder as M
use Rattle.commands.specs.View.{view_command}
use Rattle.commands.specs.declared.Command.{Command}
use Rattle.commands.specs.declared.Fault.{Fault}
use Rattle.composing.specs.Composes.{answered}
use Rattle.composing.specs.declared.BuilderState.{BuilderState}

abbrev pub values_of : List ℕ → List ℕ
values_of o = get_or o 1 0 ∷ get_or o 2 0 ∷ get_or o 3 0 ∷ get_or o 4 0 ∷ get_or o 5 0 ∷ get_or o 6 0 ∷ get_or o 7 0 ∷ get_or o 8 0 ∷ []

abbrev pub command_or : O.Option C.Command → C.Command
command_or none = C.END
command_or (some c) = c

-- the command that a byte names, with the values that lie beside a BLOCK
abbrev pub view_handed : List ℕ → Option Command → O.Option C.Command
view_handed vs None = none
view_handed vs (Some c) = some (view_command vs c)

-- the answer to what is handed over
abbrev pub ComposesHanded : M.BuilderState → List ℕ → O.Option C.Command → Result BuilderState Fault → List ℕ → Type 0
ComposesHanded s before o r after = answered s r after ≡ M.compose_handed s before o
