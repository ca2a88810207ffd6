-- The reading has come to the reader's offset, and each command leaves less of the sheet.
use Rattle.std.proofs.Common.{◌≡◌, ◌-◌, length}
use Rattle.rules.specs.View.{view_known}
use Rattle.sheet_check.specs.Read.{Reached}
use Rattle.sheet_check.proofs.first_fault.Given as goal

abbrev pub invariant-loop-c : goal.invariant-loop-c
invariant-loop-c l = record {
  over : l.reader.sheet.now ≡ l.sheet;
  reached : Reached l.sheet l.reader.at (view_known l.known);
}

abbrev pub decreases-loop-c : goal.decreases-loop-c
decreases-loop-c l = length l.sheet - l.reader.at
