-- The bytes of a command: its byte and its operands, each as wide as the table says, big-endian; and the bytes of a list of commands.
use Rattle.std.specs.Prelude.{ℕ, zero, suc, ◌/◌, ◌%◌, ◌^◌, ◌<◌, ◌≡◌, List, [], ◌∷◌, ◌++◌, length, get_or}
use Rattle.std.proofs.Math.Option.{Option, none, some}
use Rattle.model.specs.Ceilings.{value_range, block_values}
use Rattle.model.specs.Command.{GET, PUT, READ, PAIR, SWAP, BEGIN, access, COMMIT, LOAD, ADD, outside, inside}
use Rattle.model.specs.Command.{Command, WORD, BLOCK, TASK, RELEASE, END, body, Row, table, row_of}

abbrev pub byte_of : Command → ℕ
byte_of (WORD v) = 0x01
byte_of (BLOCK b) = 0x02
byte_of TASK = 0x03
byte_of (RELEASE r) = 0x04
byte_of END = 0x05
byte_of (body (LOAD r v)) = 0x10
byte_of (body (ADD r q)) = 0x11
byte_of (body (outside (READ r w))) = 0x12
byte_of (body (outside (PAIR w o n))) = 0x13
byte_of (body (outside (SWAP r))) = 0x14
byte_of (body (outside BEGIN)) = 0x20
byte_of (body (inside (access (GET r b o)))) = 0x21
byte_of (body (inside (access (PUT b o r)))) = 0x22
byte_of (body (inside COMMIT)) = 0x23

abbrev pub operands_of : Command → List ℕ
operands_of (WORD v) = v ∷ []
operands_of (BLOCK b) = b.version ∷ b.values
operands_of TASK = []
operands_of (RELEASE r) = r.tick ∷ r.task ∷ []
operands_of END = []
operands_of (body (LOAD r v)) = r ∷ v ∷ []
operands_of (body (ADD r q)) = r ∷ q ∷ []
operands_of (body (outside (READ r w))) = r ∷ w ∷ []
operands_of (body (outside (PAIR w o n))) = w ∷ o ∷ n ∷ []
operands_of (body (outside (SWAP r))) = r ∷ []
operands_of (body (outside BEGIN)) = []
operands_of (body (inside (access (GET r b o)))) = r ∷ b ∷ o ∷ []
operands_of (body (inside (access (PUT b o r)))) = b ∷ o ∷ r ∷ []
operands_of (body (inside COMMIT)) = []

unfoldable pub widths_from : Option Row → List ℕ
widths_from none = []
widths_from (some r) = r.widths

-- the widths that the table gives the command's operands
unfoldable pub widths_of : Command → List ℕ
unfolding widths_from row_of table
widths_of c = widths_from (row_of (byte_of c) table)

-- a number in w bytes, big-endian
unfoldable pub bytes_of : ℕ → ℕ → List ℕ
bytes_of zero v = []
bytes_of (suc w) v = bytes_of w (v / 256) ++ (v % 256 ∷ [])

unfoldable pub operand_bytes : List ℕ → List ℕ → List ℕ
unfolding bytes_of
operand_bytes [] vs = []
operand_bytes (w ∷ ws) [] = []
operand_bytes (w ∷ ws) (v ∷ vs) = bytes_of w v ++ operand_bytes ws vs

unfoldable pub encode : Command → List ℕ
unfolding widths_of operand_bytes
encode c = byte_of c ∷ operand_bytes (widths_of c) (operands_of c)

unfoldable pub encode_all : List Command → List ℕ
unfolding encode
encode_all [] = []
encode_all (c ∷ l) = encode c ++ encode_all l

-- values are 32-bit unsigned, and a BLOCK has eight
abbrev pub ValuesFit : Command → Type 0
ValuesFit (WORD v) = v < value_range
ValuesFit (BLOCK b) = (length b.values ≡ block_values) × ((i : ℕ) → get_or b.values i 0 < value_range)
ValuesFit TASK = Unit {0}
ValuesFit (RELEASE r) = Unit {0}
ValuesFit END = Unit {0}
ValuesFit (body (LOAD r v)) = v < value_range
ValuesFit (body (ADD r q)) = Unit {0}
ValuesFit (body (outside c)) = Unit {0}
ValuesFit (body (inside c)) = Unit {0}

-- each number fits its width
abbrev pub Fits : List ℕ → List ℕ → Type 0
Fits [] [] = Unit {0}
Fits [] (v ∷ vs) = ⊥
Fits (w ∷ ws) [] = ⊥
Fits (w ∷ ws) (v ∷ vs) = (v < 256 ^ w) × Fits ws vs

abbrev pub OperandsFit : Command → Type 0
OperandsFit c = Fits (widths_of c) (operands_of c)
