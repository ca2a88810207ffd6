-- `compose` meets its contract.
use Rattle.builder.proofs.Entries.{composes}
use Rattle.builder.proofs.compose.Goals as goal

pub returns : goal.returns
returns c = composes _ c.compose.result _ _ c.compose.ensures
