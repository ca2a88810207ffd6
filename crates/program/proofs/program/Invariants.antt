-- The loop's invariant: the bodies closed so far stand in the program, and so does the open one up to
-- the place; the commands to come declare the rest. The measure is what is left of the sheet.
use Prim.Native.Nat.{◌-◌}
use Rattle.program.proofs.Filling.{Filled}
use lib.ListN.{length}
use Rattle.program.proofs.program.Given as goal

abbrev pub invariant-loop-command : goal.invariant-loop-command
invariant-loop-command l = Filled l.sheet l.program l.bounds l.at l.tasks l.lines

abbrev pub decreases-loop-command : goal.decreases-loop-command
decreases-loop-command l = length l.sheet - l.at
