-- The digits found are all that the number has.
use Rattle.std.proofs.Common.{rules}
use Rattle.report.proofs.Writing.{to_the_end}
use Rattle.report.proofs.text.Writer.decimal.Goals as goal

pub returns : goal.returns
returns c =
    to_the_end c.digits-first.new.text c.digits-first.result 10 c.copy.ensures c.digits-first.ensures.1 (search rules) (search rules)
