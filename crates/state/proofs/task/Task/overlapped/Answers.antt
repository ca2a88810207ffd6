-- `overlapped` meets its contract.
use Rattle.std.proofs.Common.{sym, ap, ◌∙◌}
use Rattle.model.proofs.Lists.{at_map}
use Rattle.state.specs.State.{own, no_entry}
use Rattle.state.specs.declared.task.Entry.{Entry}
use Rattle.state.proofs.task.Task.overlapped.Goals as goal

pub returns : goal.returns
unfolding own
returns c = ap (λ (e : Entry). e.overlapped) c.entry.ensures ∙ sym (at_map (λ (e : Entry). e.overlapped) no_entry _ _)
