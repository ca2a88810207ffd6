-- The values have room behind the version.
use Rattle.std.proofs.Common.{arith}
use Rattle.encoder.proofs.Stores.{fours-length}
use Rattle.encoder.proofs.operands.Goals as goal

pub put_values-requires : goal.put_values-requires
put_values-requires c =
    let a = c.args in
    let room = rw c.in-Block.is at c.requires in
    omega (arith, room, fours-length a.values.now)
