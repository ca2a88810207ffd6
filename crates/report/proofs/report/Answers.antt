-- The first round changes nothing and finds the length; the second writes only where the report fits.
use Rattle.report.proofs.Whole.{long_enough, too_short}
use Rattle.report.proofs.report.Goals as goal

pub returns-then-fits : goal.returns-then-fits
returns-then-fits c = long_enough _ c.write-needed.ensures c.if-fits.true c.write.ensures

pub returns-else-fits : goal.returns-else-fits
returns-else-fits c = too_short _ c.write-needed.ensures c.if-fits.false
