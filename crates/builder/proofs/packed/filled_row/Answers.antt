-- `filled_row` meets its contract.
use Rattle.builder.proofs.StateBytes.{eight_back}
use Rattle.builder.proofs.packed.filled_row.Goals as goal

pub returns : goal.returns
returns c = rw c.to_be_bytes.ensures (eight_back c.args.f c.ranges.f.fits)
