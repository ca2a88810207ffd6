-- `find` meets its contract. The loop's invariant: no entry before this one has the byte.
use Rattle.commands.specs.Table.{entry_in}
use lib.ListN.{drop}
use mathlib.Core.Path.{◌≡◌}
use Rattle.commands.proofs.table.find.Given as goal

abbrev pub invariant-loop-entry : goal.invariant-loop-entry
invariant-loop-entry l = entry_in l.b l.entries ≡ entry_in l.b (drop l.entry-index l.entries)
