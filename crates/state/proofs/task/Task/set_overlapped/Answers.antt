-- `set_overlapped` meets its contract.
use Rattle.std.proofs.Common.{ap}
use Rattle.state.specs.State.{own, with_entries}
use Rattle.state.proofs.Entries.{overlapped_set}
use Rattle.state.proofs.task.Task.set_overlapped.Goals as goal

pub returns : goal.returns
unfolding own
returns c = ap (with_entries (own c.args.self.now)) (overlapped_set _ _ _ c.entry.ensures c.store.ensures)
