-- `gather` meets its contract.
use Rattle.std.proofs.Common.{arith}
use Rattle.transactions.proofs.Gathers.{passed-room, passed_more, passed-all}
use Rattle.transactions.proofs.commits.gather.Goals as goal

pub overflow_add-passes : goal.overflow_add-passes
overflow_add-passes c = omega (arith, passed-room c.loop-b.invariant c.in-Some.ensures.steps.0)

pub loop-b-preserved : goal.loop-b-preserved
loop-b-preserved c =
    let bit = c.in-Some.ensures.steps in
    let g = rw bit.1 at c.gather_one-spends.ensures in rw bit.2 (passed_more c.loop-b.invariant bit.0 _ _ g.0 g.1)

pub returns : goal.returns
returns c = passed-all (rw c.in-None.ensures.steps at c.loop-b.invariant)
