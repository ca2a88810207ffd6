-- A T line with the first counts, then an R line with the registers.
use Rattle.std.proofs.Common.{rules}
use Rattle.state.specs.State.{own}
use Rattle.report.proofs.Views.{task_lines}
use Rattle.report.proofs.task.Goals as goal

pub returns : goal.returns
returns c =
    task_lines _ (own c.args.task.now) c.counts.ensures.0 c.registers.ensures.0 c.registers.ensures.1
    c.line.ensures c.line-2.ensures (search rules)
