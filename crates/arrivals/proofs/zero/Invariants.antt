-- `zero` meets its contract.
use Rattle.std.proofs.Common.{◌≡◌}
use Rattle.state.specs.State.{own}
use Rattle.arrivals.specs.Releases.{zeroing}
use Rattle.arrivals.proofs.zero.Given as goal

abbrev pub invariant-loop-n : goal.invariant-loop-n
invariant-loop-n l = own l.task ≡ zeroing l.n (own l.initial.task)
