-- `set_target` meets its contract.
use Rattle.std.proofs.Common.{ap}
use Rattle.state.specs.State.{own, with_entries}
use Rattle.state.proofs.Entries.{target_set}
use Rattle.state.proofs.task.Task.set_target.Goals as goal

pub returns : goal.returns
unfolding own
returns c = ap (with_entries (own c.args.self.now)) (target_set _ _ _ c.entry.ensures c.store.ensures)
