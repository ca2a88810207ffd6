-- What was read lies in the buffer.
use Rattle.std.proofs.Common.{◌≤◌, length}
use Rattle.input.proofs.read_full.Given as goal

abbrev pub invariant-loop : goal.invariant-loop
invariant-loop l = l.filled ≤ length l.buffer
