-- `set_slot` meets its contract.
use Rattle.std.proofs.Common.{ap}
use Rattle.state.specs.State.{own, with_blocks}
use Rattle.state.proofs.Entries.{slot_set}
use Rattle.state.proofs.task.Task.set_slot.Goals as goal

pub returns : goal.returns
unfolding own
returns c = ap (with_blocks (own c.args.self.now)) (slot_set _ _ _ _ c.block.ensures c.store.ensures)
