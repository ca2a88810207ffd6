-- `own_start` meets its contract.
use Rattle.start.proofs.Loops.{all-copied}
use Rattle.start.proofs.own_start.Goals as goal

pub returns : goal.returns
returns c = all-copied _ c.with_copies.ensures
