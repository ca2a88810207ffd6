-- `gather` meets its contract.
use Rattle.state.specs.State.{own}
use Rattle.transactions.proofs.Gathers.{Passed}
use Rattle.transactions.proofs.commits.gather.Given as goal

abbrev pub invariant-loop-b : goal.invariant-loop-b
invariant-loop-b l = Passed (own l.initial.task) (own l.task) l.b-iterator.0 l.passes l.spent
