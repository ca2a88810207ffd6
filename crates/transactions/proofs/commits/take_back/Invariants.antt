-- `take_back` meets its contract.
use Rattle.state.specs.State.{own}
use Rattle.transactions.proofs.Gathers.{Taken}
use Rattle.transactions.proofs.commits.take_back.Given as goal

abbrev pub invariant-loop-b : goal.invariant-loop-b
invariant-loop-b l = Taken (own l.initial.task) (own l.task) l.b-iterator.0
