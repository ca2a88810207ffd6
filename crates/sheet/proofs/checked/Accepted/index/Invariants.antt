-- `index` meets its contract. The loop's invariant: the index is right so far, and the commands to come declare what is left.
use Prim.Native.Nat.{◌-◌}
use Rattle.sheet.proofs.Indexing.{Walk}
use lib.ListN.{length}
use Rattle.sheet.proofs.checked.Accepted.index.Given as goal

abbrev pub invariant-loop-c : goal.invariant-loop-c
invariant-loop-c l = Walk l.sheet l.x l.at

abbrev pub decreases-loop-c : goal.decreases-loop-c
decreases-loop-c l = length l.sheet - l.at
