-- `fresh_cell` meets its contract.
use Rattle.state.proofs.Packed.{unpack-packed}
use mathlib.Core.Bool.{true}
use native.Mathlib.Omega.{arith}
use Rattle.start.proofs.fresh_cell.Goals as goal

pub returns : goal.returns
returns c = rw (c.pack.ensures, c.fresh.ensures) (unpack-packed _ 0 true 0 (omega (arith, c.ranges)) (omega arith))
