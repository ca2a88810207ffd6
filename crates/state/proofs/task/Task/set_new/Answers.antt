-- `set_new` meets its contract.
use Rattle.std.proofs.Common.{ap}
use Rattle.state.specs.State.{own, with_entries}
use Rattle.state.proofs.Entries.{new_set}
use Rattle.state.proofs.task.Task.set_new.Goals as goal

pub returns : goal.returns
unfolding own
returns c = ap (with_entries (own c.args.self.now)) (new_set _ _ _ c.entry.ensures c.store.ensures)
