-- `slot` meets its contract.
use Rattle.std.proofs.Common.{sym, ap, ◌∙◌}
use Rattle.model.proofs.Lists.{at_map}
use Rattle.state.specs.State.{own, no_block}
use Rattle.state.specs.declared.task.Block.{Block}
use Rattle.state.proofs.task.Task.slot.Goals as goal

pub returns : goal.returns
unfolding own
returns c = ap (λ (e : Block). e.slot) c.block.ensures ∙ sym (at_map (λ (e : Block). e.slot) no_block _ _)
