-- The values of a store that there is, and none of one that there is not.
use Rattle.report.proofs.Views.{got_values}
use Rattle.report.proofs.values.Goals as goal

pub returns-clause-values : goal.returns-clause-values
returns-clause-values c =
    got_values _ _ c.slot-start.ensures c.stores.ensures.0 c.stores.ensures.1 c.get.result c.get.ensures.lookup c.unwrap_or_default.result c.unwrap_or_default.ensures
