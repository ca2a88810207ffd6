-- `take_back` meets its contract.
use Rattle.transactions.proofs.Gathers.{taken_none, taken_more, taken-all}
use Rattle.transactions.proofs.commits.take_back.Goals as goal

pub loop-b-init : goal.loop-b-init
loop-b-init c = rw (c.into_iter-b-iterator.ensures.into_iter_gives, c.touched.ensures)
    (taken_none _ (rw c.touched.ensures at c.touched.type_inv))

pub loop-b-preserved : goal.loop-b-preserved
loop-b-preserved c = let bit = c.in-Some.ensures.steps in rw bit.2 (taken_more c.loop-b.invariant bit.0 _ (rw bit.1 at c.take_one.ensures))

pub returns : goal.returns
returns c = taken-all (rw c.in-None.ensures.steps at c.loop-b.invariant)
