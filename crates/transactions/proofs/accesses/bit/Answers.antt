-- `bit` meets its contract.
use Rattle.transactions.proofs.Mask.{one_bit}
use Rattle.transactions.proofs.accesses.bit.Goals as goal

pub returns : goal.returns
returns c = one_bit c.args.b
