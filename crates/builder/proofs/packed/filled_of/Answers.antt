-- `filled_of` meets its contract.
use Rattle.std.proofs.Common.{arith}
use Rattle.model.specs.Command.{big_endian}
use Rattle.builder.proofs.packed.filled_of.Goals as goal

pub returns : goal.returns
unfolding big_endian
returns c = omega (arith, c.from_be_bytes.ensures)
