-- `set_remembered` meets its contract.
use Rattle.std.proofs.Common.{ap}
use Rattle.state.specs.State.{own, with_blocks}
use Rattle.state.proofs.Entries.{remembered_set}
use Rattle.state.proofs.task.Task.set_remembered.Goals as goal

pub returns : goal.returns
unfolding own
returns c = ap (with_blocks (own c.args.self.now)) (remembered_set _ _ _ _ c.block.ensures c.store.ensures)
