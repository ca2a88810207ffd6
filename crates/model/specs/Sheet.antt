-- The whole sheet, command by command: the first fault in byte order with its place, and what an accepted sheet declares.
use Rattle.std.specs.Prelude.{ℕ, zero, suc, Bool, true, false, List, [], ◌∷◌, ◌++◌, ltb, length}
use Rattle.std.proofs.Math.Option.{Option, none, some}
use Rattle.model.specs.Refusal.{Refusal, cut_short, byte_after_end}
use Rattle.model.specs.Command.{Access, GET, PUT, Outside, READ, PAIR, SWAP, BEGIN, Inside, access, COMMIT}
use Rattle.model.specs.Command.{BodyCommand, LOAD, ADD, outside, inside, Command, WORD, BLOCK, TASK, RELEASE, END, body}
use Rattle.model.specs.Command.{Release, Block, Found, found, refused, command_at}
use Rattle.model.specs.Fault.{Section, word_section, block_section, body_section, release_section, SheetCounts, Body, Known}
use Rattle.model.specs.Fault.{empty_body, nothing_known, among, include_by, include, fault_of}

-- WHAT IS KNOWN AFTER A COMMAND
abbrev pub known : Section → SheetCounts → Body → Release → Known
known s n b r = record { section = s; counts = n; body = b; last = r }

abbrev pub counted : ℕ → ℕ → ℕ → ℕ → ℕ → SheetCounts
counted w b t c r = record { words = w; blocks = b; tasks = t; commands = c; releases = r }

abbrev pub one_word : SheetCounts → SheetCounts
one_word n = counted (suc n.words) n.blocks n.tasks n.commands n.releases

abbrev pub one_block : SheetCounts → SheetCounts
one_block n = counted n.words (suc n.blocks) n.tasks n.commands n.releases

abbrev pub one_task : SheetCounts → SheetCounts
one_task n = counted n.words n.blocks (suc n.tasks) n.commands n.releases

abbrev pub one_command : SheetCounts → SheetCounts
one_command n = counted n.words n.blocks n.tasks (suc n.commands) n.releases

abbrev pub one_release : SheetCounts → SheetCounts
one_release n = counted n.words n.blocks n.tasks n.commands (suc n.releases)

-- the open body with the waiting PAIRs, and with the transaction's blocks
abbrev pub waiting : List ℕ → Body → Body
waiting ps b = record { empty = false; pairs = ps; inside = b.inside; touched = b.touched; puts = b.puts }

abbrev pub transaction : Bool → List ℕ → List ℕ → Body → Body
transaction is_open ts ps b = record { empty = false; pairs = b.pairs; inside = is_open; touched = ts; puts = ps }

abbrev pub named : Access → Body → Body
named (GET r n o) b = transaction true (include n b.touched) b.puts b
named (PUT n o r) b = transaction true (include n b.touched) (include n b.puts) b

-- one more body command, which leaves the body so
abbrev pub in_body : Known → Body → Known
in_body k b = known k.section (one_command k.counts) b k.last

unfoldable pub after_outside : Body → Outside → Body
after_outside b (READ r w) = waiting b.pairs b
after_outside b (PAIR w old new) = waiting (b.pairs ++ (w ∷ [])) b
after_outside b (SWAP r) = waiting [] b
after_outside b BEGIN = transaction true [] [] b

unfoldable pub after_inside : Body → Inside → Body
unfolding among include_by
after_inside b (access a) = named a b
after_inside b COMMIT = transaction false [] [] b

unfoldable pub after_body : Body → BodyCommand → Body
unfolding after_outside after_inside
after_body b (LOAD r v) = waiting b.pairs b
after_body b (ADD r q) = waiting b.pairs b
after_body b (outside c) = after_outside b c
after_body b (inside c) = after_inside b c

unfoldable pub after : Known → Command → Known
unfolding after_body
after k (WORD v) = known word_section (one_word k.counts) k.body k.last
after k (BLOCK b) = known block_section (one_block k.counts) k.body k.last
after k TASK = known body_section (one_task k.counts) empty_body k.last
after k (RELEASE r) = known release_section (one_release k.counts) k.body r
after k END = k
after k (body c) = in_body k (after_body k.body c)

-- THE FIRST FAULT IN BYTE ORDER
pub data Verdict : Type 0 where
  accepted : Verdict
  turned_down : Refusal → ℕ → Verdict

abbrev pub end? : Command → Bool
end? END = true
end? (WORD v) = false
end? (BLOCK b) = false
end? TASK = false
end? (RELEASE r) = false
end? (body c) = false

-- a byte follows END
unfoldable pub at_end : Bool → ℕ → Verdict
at_end true next = turned_down byte_after_end next
at_end false next = accepted

-- a good command: END ends the reading, after any other `go` goes on
unfoldable pub judge_end : (ℕ → Known → Verdict) → List ℕ → Known → Command → ℕ → Bool → Verdict
unfolding at_end after
judge_end go sheet k c next true = at_end (ltb next (length sheet)) next
judge_end go sheet k c next false = go next (after k c)

unfoldable pub judge_fault : (ℕ → Known → Verdict) → List ℕ → ℕ → Known → Command → ℕ → Option Refusal → Verdict
unfolding judge_end
judge_fault go sheet place k c next (some f) = turned_down f place
judge_fault go sheet place k c next none = judge_end go sheet k c next (end? c)

unfoldable pub judge : (ℕ → Known → Verdict) → List ℕ → ℕ → Known → Found → Verdict
unfolding judge_fault fault_of
judge go sheet place k (refused f p) = turned_down f p
judge go sheet place k (found c next) = judge_fault go sheet place k c next (fault_of k c)

-- from a place on, at most n commands
unfoldable pub verdict_from : ℕ → List ℕ → ℕ → Known → Verdict
unfolding judge command_at
verdict_from zero sheet place k = turned_down cut_short (length sheet)
verdict_from (suc n) sheet place k =
    let go : ℕ → Known → Verdict = verdict_from n sheet in
    judge go sheet place k (command_at sheet place)

-- a command has a byte at least, so no sheet has more commands than bytes
unfoldable pub verdict : List ℕ → Verdict
unfolding verdict_from
verdict sheet = verdict_from (suc (length sheet)) sheet 0 nothing_known

-- WHAT AN ACCEPTED SHEET DECLARES
unfoldable pub listed : (ℕ → List Command) → Found → List Command
listed go (refused f p) = []
listed go (found c next) = c ∷ go next

-- the commands from a place on, at most n
unfoldable pub commands_from : ℕ → List ℕ → ℕ → List Command
unfolding listed command_at
commands_from zero sheet place = []
commands_from (suc n) sheet place =
    let go : ℕ → List Command = commands_from n sheet in
    listed go (command_at sheet place)

pub record Sheet : Type 0 where
  pub words : List ℕ
  pub blocks : List Block
  pub bodies : List (List BodyCommand)
  pub releases : List Release

-- what the commands from a place on declare; `body` are those of the body that the place lies in
pub record Declared : Type 0 where
  pub body : List BodyCommand
  pub sheet : Sheet

abbrev pub declares : List BodyCommand → List ℕ → List Block → List (List BodyCommand) → List Release → Declared
declares o w b t r = record { body = o; sheet = record { words = w; blocks = b; bodies = t; releases = r } }

abbrev pub in_open_body : BodyCommand → Declared → Declared
in_open_body c d = record { body = c ∷ d.body; sheet = d.sheet }

unfoldable pub declare : Command → Declared → Declared
declare (WORD v) d = declares [] (v ∷ d.sheet.words) d.sheet.blocks d.sheet.bodies d.sheet.releases
declare (BLOCK b) d = declares [] d.sheet.words (b ∷ d.sheet.blocks) d.sheet.bodies d.sheet.releases
declare TASK d = declares [] d.sheet.words d.sheet.blocks (d.body ∷ d.sheet.bodies) d.sheet.releases
declare (RELEASE r) d = declares [] d.sheet.words d.sheet.blocks d.sheet.bodies (r ∷ d.sheet.releases)
declare END d = declares [] [] [] [] []
declare (body c) d = in_open_body c d

unfoldable pub declared : List Command → Declared
unfolding declare
declared [] = declares [] [] [] [] []
declared (c ∷ l) = declare c (declared l)

-- from a place on: the commands, what they declare, the rest of the body that the place lies in, the releases
unfoldable pub commands_at : List ℕ → ℕ → List Command
unfolding commands_from
commands_at sheet place = commands_from (length sheet) sheet place

unfoldable pub declared_at : List ℕ → ℕ → Declared
unfolding declared commands_at
declared_at sheet place = declared (commands_at sheet place)

abbrev pub body_at : List ℕ → ℕ → List BodyCommand
body_at sheet place = (declared_at sheet place).body

abbrev pub releases_at : List ℕ → ℕ → List Release
releases_at sheet place = (declared_at sheet place).sheet.releases

-- what a whole sheet declares
unfoldable pub sheet_of : List ℕ → Sheet
unfolding declared_at
sheet_of sheet = (declared_at sheet 0).sheet
