-- The rule for the current value is the model's.
use Rattle.std.proofs.Common.{◌∙◌}
use Rattle.report.proofs.Views.{current-in}
use Rattle.report.proofs.contents.Goals as goal

pub returns : goal.returns
returns c = c.current.ensures ∙ current-in c.sized.ensures c.args.cell c.requires
