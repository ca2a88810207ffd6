-- `set_words` meets its contract.
use Rattle.state.specs.State.{shared}
use Rattle.start.specs.Start.{SharedStarts}
use Rattle.start.specs.Declaring.{sheet_in, declaring}
use Rattle.start.proofs.set_words.Given as goal

abbrev pub invariant-loop-w : goal.invariant-loop-w
invariant-loop-w l = SharedStarts (declaring (sheet_in l.n) l.w 0) (shared l.memory)
