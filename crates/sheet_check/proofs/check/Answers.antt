-- Number and place of the verdict are those of the scope's answer.
use Rattle.sheet.proofs.Reading.{checked_is}
use Rattle.sheet_check.proofs.check.Goals as goal

pub returns : goal.returns
returns c = checked_is c.first_fault.result _ c.first_fault.ensures
