-- The outcome of the check, without the accepted sheet.
use Rattle.std.specs.Prelude.{Result, Ok, Err}
use Rattle.commands.specs.declared.Fault.{Fault}
use Rattle.sheet.specs.View.{Outcome}
use Rattle.sheet.specs.declared.checked.Accepted.{Accepted}

abbrev pub outcome_of : Result Accepted Fault → Outcome
outcome_of (Ok a) = Ok tt
outcome_of (Err f) = Err f
