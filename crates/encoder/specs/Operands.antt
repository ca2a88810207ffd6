-- How many bytes a command has, and the bytes of its operands.
use Rattle.std.specs.Prelude.{ℕ, suc, ◌/◌, ◌%◌, List, [], ◌∷◌, ◌++◌, length, drop}
use Rattle.model.specs.Command.{Access, GET, PUT, Outside, READ, PAIR, SWAP, BEGIN, Inside, access, COMMIT}
use Rattle.model.specs.Command.{BodyCommand, LOAD, ADD, outside, inside}
use Rattle.model.specs.Command.{Command, WORD, BLOCK, TASK, RELEASE, END, body, total}
use Rattle.model.specs.Encoding.{widths_of}

abbrev pub size_of : Command → ℕ
size_of c = suc (total (widths_of c))

-- a number in one byte, in two and in four; numbers in four each
abbrev pub one : ℕ → List ℕ
one v = v % 256 ∷ []

abbrev pub two : ℕ → List ℕ
two v = v / 256 % 256 ∷ v % 256 ∷ []

abbrev pub four : ℕ → List ℕ
four v = v / 256 / 256 / 256 % 256 ∷ v / 256 / 256 % 256 ∷ v / 256 % 256 ∷ v % 256 ∷ []

abbrev pub fours : List ℕ → List ℕ
fours [] = []
fours (v ∷ vs) = four v ++ fours vs

-- the operands' bytes
abbrev pub outside_operands : Outside → List ℕ
outside_operands (READ r w) = one r ++ one w
outside_operands (PAIR w old new) = one w ++ one old ++ one new
outside_operands (SWAP r) = one r
outside_operands BEGIN = []

abbrev pub access_operands : Access → List ℕ
access_operands (GET r b o) = one r ++ one b ++ one o
access_operands (PUT b o r) = one b ++ one o ++ one r

abbrev pub inside_operands : Inside → List ℕ
inside_operands (access a) = access_operands a
inside_operands COMMIT = []

abbrev pub body_operands : BodyCommand → List ℕ
body_operands (LOAD r v) = one r ++ four v
body_operands (ADD r q) = one r ++ one q
body_operands (outside c) = outside_operands c
body_operands (inside c) = inside_operands c

abbrev pub command_operands : Command → List ℕ
command_operands (WORD v) = four v
command_operands (BLOCK b) = four b.version ++ fours b.values
command_operands TASK = []
command_operands (RELEASE r) = two r.tick ++ one r.task
command_operands END = []
command_operands (body c) = body_operands c

-- a buffer that starts with these bytes, and goes on as before
abbrev pub started : List ℕ → List ℕ → List ℕ
started bytes b = bytes ++ drop (length bytes) b
