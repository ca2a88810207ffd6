-- `tick_row` meets its contract.
use Rattle.model.specs.Command.{big_endian}
use Rattle.builder.proofs.StateBytes.{four_back}
use Rattle.builder.proofs.packed.tick_row.Goals as goal

pub returns : goal.returns
unfolding big_endian
returns c = rw c.to_be_bytes.ensures (four_back c.args.t c.ranges.t.fits)
