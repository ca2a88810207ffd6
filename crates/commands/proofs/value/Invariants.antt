-- `value` meets its contract. The loop's invariant: the number in the first i bytes.
use Rattle.std.proofs.Common.{◌≡◌, ◌<◌, ◌^◌}
use Rattle.model.specs.Command.{big_endian}
use Rattle.commands.proofs.value.Given as goal

abbrev pub invariant-loop-i : goal.invariant-loop-i
invariant-loop-i g l = (l.v ≡ big_endian l.s l.at l.i) × (l.v < 256 ^ l.i)
