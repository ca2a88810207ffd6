-- `values` meets its contract.
use Rattle.commands.proofs.Decoding.{block-values}
use Rattle.commands.proofs.values.Goals as goal

pub returns : goal.returns
returns c = rw block-values (cc)
