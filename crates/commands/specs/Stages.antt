-- The stages of the decoding, each a part of the model's: the command and the width of a byte, what the byte at a place says.
use Rattle.std.specs.Prelude.{ℕ, suc, ◌+◌, ◌≤◌, ◌≡◌, Bool, true, false, List, [], ◌∷◌, length, Result, Ok, Err}
use Rattle.std.proofs.Math.Option.{Option, none, some}
use Rattle.model.specs.Command.{Command, END, block_from, Row, table, row_of, total, operand, found, refused, command_at}
use Rattle.commands.specs.View.{view_refusal}
use Rattle.commands.specs.declared.Fault.{Fault}
use Rattle.commands.specs.declared.table.Entry.{Entry}

abbrev pub pick : {A : Type 0} → Bool → A → A → A
pick true a b = a
pick false a b = b

-- the eight values of a BLOCK whose operands start at p
unfoldable pub values_from : List ℕ → ℕ → List ℕ
unfolding operand
values_from s p = (block_from (operand s p (4 ∷ 4 ∷ 4 ∷ 4 ∷ 4 ∷ 4 ∷ 4 ∷ 4 ∷ 4 ∷ []))).values

-- the command of a row whose operands start at p, and how many bytes they take; END and 0 for no row
unfoldable pub command_from : List ℕ → ℕ → Option Row → Command
unfolding operand
command_from s p none = END
command_from s p (some r) = r.command (λ n. operand s p r.widths n)

unfoldable pub width_from : Option Row → ℕ
unfolding total
width_from none = 0
width_from (some r) = total r.widths

-- the same by the command byte
unfoldable pub command_of : List ℕ → ℕ → ℕ → Command
unfolding command_from row_of table
command_of s p b = command_from s p (row_of b table)

unfoldable pub width_of : ℕ → ℕ
unfolding width_from row_of table
width_of b = width_from (row_of b table)

-- what a byte at a place says of the command there
abbrev pub ByteSays : List ℕ → ℕ → ℕ → Type 0
ByteSays s at b = (suc at + width_of b ≤ length s) × (command_at s at ≡ found (command_of s (suc at) b) (suc at + width_of b))

-- what its entry says, whose width is the byte's
abbrev pub EntrySays : List ℕ → ℕ → Result Entry Fault → Type 0
EntrySays s at (Err f) = command_at s at ≡ refused (view_refusal f.refusal) f.place
EntrySays s at (Ok e) = (e.width ≡ width_of e.byte) × ByteSays s at e.byte
