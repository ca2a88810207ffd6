-- `restore` meets its contract.
use Rattle.std.proofs.Common.{sym, ap, ◌∙◌}
use Rattle.state.specs.State.{own, with_registers}
use Rattle.jobs.proofs.Copied.{copied_all}
use Rattle.jobs.proofs.restore.Goals as goal

pub returns : goal.returns
returns c = let size = c.restore.ensures.sized in c.restore.ensures.registers ∙ ap (with_registers (own c.args.task.now)) (sym (copied_all 8 _ _ size.1 size.0))
