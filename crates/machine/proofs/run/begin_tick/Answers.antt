-- `begin_tick` meets its contract.
use Rattle.machine.proofs.Runs.{finished-tick}
use Rattle.machine.proofs.run.begin_tick.Goals as goal

pub returns : goal.returns
returns c = finished-tick _ c.begin.ensures c.finish.ensures
