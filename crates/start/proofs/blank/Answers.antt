-- `blank` meets its contract.
use Rattle.std.proofs.Common.{rules}
use Rattle.start.proofs.Loops.{all_blanked}
use Rattle.start.proofs.blank.Goals as goal

pub returns : goal.returns
returns c = all_blanked c.fresh_cell.result c.fresh_cell.ensures (search rules)
