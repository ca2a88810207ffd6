-- As many bytes as are counted lie in the buffer.
use Rattle.std.proofs.Common.{◌≤◌, length}
use Rattle.sheet_cases.proofs.parse.Given as goal

abbrev pub invariant-loop-digits : goal.invariant-loop-digits
invariant-loop-digits l = l.n ≤ length l.bytes
