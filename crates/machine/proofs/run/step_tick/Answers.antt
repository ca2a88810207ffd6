-- `step_tick` meets its contract.
use Rattle.machine.proofs.Runs.{finished-tick}
use Rattle.machine.proofs.run.step_tick.Goals as goal

pub returns : goal.returns
returns c = finished-tick _ c.step.ensures c.finish.ensures
