-- `sized` meets its contract.
use Rattle.std.proofs.Common.{rules}
use Rattle.state.specs.State.{shared}
use Rattle.state.proofs.memory.Memory.sized.Goals as goal

pub returns : goal.returns
unfolding shared
returns c = record { cells = search rules; status = search rules; saves = search rules; stores = search rules }
