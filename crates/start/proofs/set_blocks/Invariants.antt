-- `set_blocks` meets its contract.
use Rattle.state.specs.State.{shared}
use Rattle.start.specs.Start.{SharedStarts}
use Rattle.start.specs.Declaring.{sheet_in, declaring}
use Rattle.start.proofs.set_blocks.Given as goal

abbrev pub invariant-loop-b : goal.invariant-loop-b
invariant-loop-b l = SharedStarts (declaring (sheet_in l.n) l.n.words l.b) (shared l.memory)
