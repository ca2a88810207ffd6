-- `set_store` meets its contract.
use Rattle.state.specs.State.{shared}
use Rattle.start.specs.Declaring.{Stored}
use Rattle.start.proofs.Stores.{placed}
use Rattle.start.proofs.set_store.Given as goal

abbrev pub invariant-loop-k : goal.invariant-loop-k
invariant-loop-k l = Stored (shared l.initial.memory) l.store (placed (shared l.initial.memory) l.store l.fn.values l.k) (shared l.memory)
