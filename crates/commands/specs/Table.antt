-- The code's table: of each row of the model's the byte, and how many operand bytes follow it; and the entry of a byte in it.
use Rattle.std.specs.Prelude.{ℕ, List, [], ◌∷◌, eqb, Option, Some, None}
use Rattle.model.specs.Command.{Row, table, total}
use Rattle.commands.specs.Stages.{pick}
use Rattle.commands.specs.declared.table.Entry.{Entry}

unfoldable pub entry_from : Row → Entry
unfolding total
entry_from r = record { byte = r.byte; width = total r.widths }

unfoldable pub entries_from : List Row → List Entry
unfolding entry_from
entries_from [] = []
entries_from (r ∷ l) = entry_from r ∷ entries_from l

unfoldable pub entries : List Entry
unfolding entries_from table
entries = entries_from table

-- the first entry with that byte
unfoldable pub entry_in : ℕ → List Entry → Option Entry
entry_in b [] = None
entry_in b (e ∷ l) =
    let other : Option Entry = entry_in b l in
    pick (eqb b e.byte) (Some e) other

unfoldable pub entry_of : ℕ → Option Entry
unfolding entry_in entries
entry_of b = entry_in b entries
