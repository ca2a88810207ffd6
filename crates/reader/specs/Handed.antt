-- What a reader hands out, and where it stands after it: past the command, or where it was at a fault.
use Rattle.std.specs.Prelude.{ℕ, suc, ◌≡◌, List, Result}
use Rattle.model.specs.Command.{Found, found, refused, command_at}
use Rattle.commands.specs.View.{view_decoded}
use Rattle.commands.specs.Stages.{values_from}
use Rattle.commands.specs.declared.Command.{Command}
use Rattle.commands.specs.declared.Fault.{Fault}
use Rattle.reader.specs.declared.Reader.{Reader}

-- d is what stands at a place of the sheet: the command with its operands, BLOCK's values lying beside it, or the fault
abbrev pub HandsOut : List ℕ → ℕ → Result (Command × ℕ) Fault → Type 0
HandsOut sheet at d = view_decoded (values_from sheet (suc at)) d ≡ command_at sheet at

-- the place after what was found at a place
abbrev pub after : ℕ → Found → ℕ
after at (found c next) = next
after at (refused f place) = at

-- a reader that has handed out the command at its offset
abbrev pub moved : Reader → Reader
moved r = record { sheet = r.sheet; at = after r.at (command_at r.sheet.now r.at) }
