-- The run sheet's commands: the table of command bytes and operand widths, and the command at a place of a sheet.
use Rattle.std.specs.Prelude.{ℕ, zero, suc, ◌+◌, ◌*◌, Bool, true, false, List, [], ◌∷◌, eqb, ltb, leb, length, get_or}
use Rattle.std.proofs.Math.Option.{Option, none, some}
use Rattle.model.specs.Refusal.{Refusal, no_command, cut_short}

-- GET register block offset, and PUT block offset register
pub data Access : Type 0 where
  GET : ℕ → ℕ → ℕ → Access
  PUT : ℕ → ℕ → ℕ → Access

pub record Release : Type 0 where
  pub tick : ℕ
  pub task : ℕ

pub record Block : Type 0 where
  pub version : ℕ
  pub values : List ℕ

-- what stands for a block that is not there
abbrev pub no_block : Block
no_block = record { version = 0; values = [] }

-- what stands only outside a transaction
pub data Outside : Type 0 where
  -- register, word
  READ : ℕ → ℕ → Outside
  -- word, register of old, register of new
  PAIR : ℕ → ℕ → ℕ → Outside
  -- register for the answer
  SWAP : ℕ → Outside
  BEGIN : Outside

-- what stands only inside one
pub data Inside : Type 0 where
  access : Access → Inside
  COMMIT : Inside

-- what stands only in a body
pub data BodyCommand : Type 0 where
  -- register, value
  LOAD : ℕ → ℕ → BodyCommand
  -- register, register
  ADD : ℕ → ℕ → BodyCommand
  outside : Outside → BodyCommand
  inside : Inside → BodyCommand

pub data Command : Type 0 where
  WORD : ℕ → Command
  BLOCK : Block → Command
  TASK : Command
  RELEASE : Release → Command
  END : Command
  body : BodyCommand → Command

-- A row of the table: the byte, the widths of its operands, and the command that the operands make, each given by its number.
pub record Row : Type 0 where
  pub byte : ℕ
  pub widths : List ℕ
  pub command : (ℕ → ℕ) → Command

abbrev pub row : ℕ → List ℕ → ((ℕ → ℕ) → Command) → Row
row b ws c = record { byte = b; widths = ws; command = c }

abbrev pub block_from : (ℕ → ℕ) → Block
block_from o = record { version = o 0; values = o 1 ∷ o 2 ∷ o 3 ∷ o 4 ∷ o 5 ∷ o 6 ∷ o 7 ∷ o 8 ∷ [] }

abbrev pub release_from : (ℕ → ℕ) → Release
release_from o = record { tick = o 0; task = o 1 }

unfoldable pub table : List Row
table =
    row 0x01 (4 ∷ []) (λ o. WORD (o 0))
    ∷ row 0x02 (4 ∷ 4 ∷ 4 ∷ 4 ∷ 4 ∷ 4 ∷ 4 ∷ 4 ∷ 4 ∷ []) (λ o. BLOCK (block_from o))
    ∷ row 0x03 [] (λ o. TASK)
    ∷ row 0x04 (2 ∷ 1 ∷ []) (λ o. RELEASE (release_from o))
    ∷ row 0x05 [] (λ o. END)
    ∷ row 0x10 (1 ∷ 4 ∷ []) (λ o. body (LOAD (o 0) (o 1)))
    ∷ row 0x11 (1 ∷ 1 ∷ []) (λ o. body (ADD (o 0) (o 1)))
    ∷ row 0x12 (1 ∷ 1 ∷ []) (λ o. body (outside (READ (o 0) (o 1))))
    ∷ row 0x13 (1 ∷ 1 ∷ 1 ∷ []) (λ o. body (outside (PAIR (o 0) (o 1) (o 2))))
    ∷ row 0x14 (1 ∷ []) (λ o. body (outside (SWAP (o 0))))
    ∷ row 0x20 [] (λ o. body (outside BEGIN))
    ∷ row 0x21 (1 ∷ 1 ∷ 1 ∷ []) (λ o. body (inside (access (GET (o 0) (o 1) (o 2)))))
    ∷ row 0x22 (1 ∷ 1 ∷ 1 ∷ []) (λ o. body (inside (access (PUT (o 0) (o 1) (o 2)))))
    ∷ row 0x23 [] (λ o. body (inside COMMIT))
    ∷ []

unfoldable pub row_by : Bool → Row → Option Row → Option Row
row_by true r other = some r
row_by false r other = other

unfoldable pub row_of : ℕ → List Row → Option Row
unfolding row_by
row_of b [] = none
row_of b (r ∷ l) =
    let other : Option Row = row_of b l in
    row_by (eqb b r.byte) r other

-- how many bytes all operands take
unfoldable pub total : List ℕ → ℕ
total [] = 0
total (w ∷ ws) = w + total ws

-- the big-endian number in w bytes of the sheet from a place on
unfoldable pub big_endian : List ℕ → ℕ → ℕ → ℕ
big_endian sheet place zero = 0
big_endian sheet place (suc w) = big_endian sheet place w * 256 + get_or sheet (place + w) 0

-- the operand with that number, the first one's bytes starting at the place
unfoldable pub operand : List ℕ → ℕ → List ℕ → ℕ → ℕ
unfolding big_endian
operand sheet place [] n = 0
operand sheet place (w ∷ ws) zero = big_endian sheet place w
operand sheet place (w ∷ ws) (suc n) = operand sheet (place + w) ws n

-- a command and the place after it, or a refusal and its place
pub data Found : Type 0 where
  found : Command → ℕ → Found
  refused : Refusal → ℕ → Found

unfoldable pub found_whole : Bool → List ℕ → ℕ → Row → Found
unfolding operand total
found_whole true sheet place r = found (r.command (λ n. operand sheet (suc place) r.widths n)) (suc place + total r.widths)
found_whole false sheet place r = refused cut_short place

unfoldable pub found_row : List ℕ → ℕ → Option Row → Found
unfolding found_whole total
found_row sheet place none = refused no_command place
found_row sheet place (some r) = found_whole (leb (suc place + total r.widths) (length sheet)) sheet place r

unfoldable pub found_byte : Bool → List ℕ → ℕ → Found
unfolding found_row row_of table
found_byte true sheet place = found_row sheet place (row_of (get_or sheet place 0) table)
found_byte false sheet place = refused cut_short (length sheet)

-- the command at a place of the sheet
unfoldable pub command_at : List ℕ → ℕ → Found
unfolding found_byte
command_at sheet place = found_byte (ltb place (length sheet)) sheet place
