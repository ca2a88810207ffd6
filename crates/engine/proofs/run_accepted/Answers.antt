-- `run_accepted` meets its contract.
use Rattle.std.proofs.Common.{refl}
use Rattle.engine.proofs.Flat.{ran_by}
use Rattle.engine.proofs.run_accepted.Goals as goal

pub run-ended-requires-clause-jobs : goal.run-ended-requires-clause-jobs
run-ended-requires-clause-jobs c = rw c.start-from.ensures refl

pub run-ended-requires-clause-waiting : goal.run-ended-requires-clause-waiting
run-ended-requires-clause-waiting c = rw c.start-from.ensures refl

pub returns : goal.returns
returns c = ran_by c.index-x.ensures
    (rw c.of-n.ensures.sheet at c.memory-memory.ensures)
    c.tasks-tasks.ensures
    c.program-program.ensures
    c.start-from.ensures
    (rw c.bytes.ensures.same at c.run-ended.ensures.ends)
    (rw (c.of-n.ensures.words, c.of-n.ensures.blocks, c.of-n.ensures.tasks) at c.report.ensures)
