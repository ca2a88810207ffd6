-- `set_init` meets its contract.
use Rattle.std.proofs.Common.{ap}
use Rattle.state.specs.State.{own, with_entries}
use Rattle.state.proofs.Entries.{init_set}
use Rattle.state.proofs.task.Task.set_init.Goals as goal

pub returns : goal.returns
unfolding own
returns c = ap (with_entries (own c.args.self.now)) (init_set _ _ _ c.entry.ensures c.store.ensures)
