-- `put_values` meets its contract. The invariant: the first `i` values are written.
use mathlib.Core.Path.{◌≡◌}
use lib.ListN.{take}
use Rattle.encoder.specs.Operands.{fours, started}
use Rattle.encoder.proofs.put_values.Given as goal

abbrev pub invariant-loop-i : goal.invariant-loop-i
invariant-loop-i l = l.buffer ≡ started (fours (take l.i l.values)) l.initial.buffer
