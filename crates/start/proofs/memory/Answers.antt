-- `memory` meets its contract.
use Rattle.start.proofs.Numbers.{fit}
use Rattle.start.proofs.Declaring.{none-set}
use Rattle.start.proofs.memory.Goals as goal

pub set_words-requires : goal.set_words-requires
set_words-requires c = none-set (fit c.args.n.now) c.blank-memory.ensures
