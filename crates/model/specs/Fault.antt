-- The fault of a command, by what is known when it is read: misplaced, past a ceiling, out of range, a repeated word, a release
-- not rising.
use Rattle.std.specs.Prelude.{ℕ, Bool, true, false, not, ◌&&◌, ◌||◌, List, [], ◌∷◌, ◌++◌, eqb, ltb, leb, length}
use Rattle.std.proofs.Math.Option.{Option, none, some}
use Rattle.model.specs.Refusal.{Refusal, misplaced, ceiling_passed, out_of_range, word_repeated, releases_not_rising}
use Rattle.model.specs.Command.{Access, GET, PUT, Outside, READ, PAIR, SWAP, BEGIN, Inside, access, COMMIT}
use Rattle.model.specs.Command.{BodyCommand, LOAD, ADD, outside, inside, Release, Command, WORD, BLOCK, TASK, RELEASE, END, body}
use Rattle.model.specs.Ceilings.{max_words, max_blocks, max_tasks, max_commands, max_releases, max_pairs, max_touched, max_puts}
use Rattle.model.specs.Ceilings.{last_register, last_offset, last_version, last_tick}

pub data Section : Type 0 where
  word_section block_section body_section release_section : Section

pub record SheetCounts : Type 0 where
  pub words : ℕ
  pub blocks : ℕ
  pub tasks : ℕ
  pub commands : ℕ
  pub releases : ℕ

-- The open body: whether it is empty, the words of the waiting PAIRs, whether a transaction is open, the different blocks that it
-- names, and those it PUTs.
pub record Body : Type 0 where
  pub empty : Bool
  pub pairs : List ℕ
  pub inside : Bool
  pub touched : List ℕ
  pub puts : List ℕ

-- what is known before a command is read; `last` is the latest release
pub record Known : Type 0 where
  pub section : Section
  pub counts : SheetCounts
  pub body : Body
  pub last : Release

abbrev pub empty_body : Body
empty_body = record { empty = true; pairs = []; inside = false; touched = []; puts = [] }

abbrev pub nothing_known : Known
nothing_known =
    record {
      section = word_section;
      counts = record { words = 0; blocks = 0; tasks = 0; commands = 0; releases = 0 };
      body = empty_body;
      last = record { tick = 0; task = 0 };
    }

abbrev pub none? : List ℕ → Bool
none? [] = true
none? (x ∷ l) = false

unfoldable pub among : ℕ → List ℕ → Bool
among x [] = false
among x (y ∷ l) = eqb x y || among x l

unfoldable pub include_by : Bool → ℕ → List ℕ → List ℕ
include_by true x l = l
include_by false x l = l ++ (x ∷ [])

-- one more, if it is not among them yet
abbrev pub include : ℕ → List ℕ → List ℕ
include x l = include_by (among x l) x l

-- 4: COMMAND MISPLACED
abbrev pub words? : Section → Bool
words? word_section = true
words? block_section = false
words? body_section = false
words? release_section = false

abbrev pub blocks? : Section → Bool
blocks? word_section = false
blocks? block_section = true
blocks? body_section = false
blocks? release_section = false

abbrev pub body? : Section → Bool
body? word_section = false
body? block_section = false
body? body_section = true
body? release_section = false

abbrev pub releases? : Section → Bool
releases? word_section = false
releases? block_section = false
releases? body_section = false
releases? release_section = true

-- the open body may end here
abbrev pub may_end : Body → Bool
may_end b = not b.empty && none? b.pairs && not b.inside

-- a body is open here, and no transaction in it; or a transaction in it
abbrev pub outside_transaction : Known → Bool
outside_transaction k = body? k.section && not k.body.inside

abbrev pub inside_transaction : Known → Bool
inside_transaction k = body? k.section && k.body.inside

-- the bodies are over, or the last one may end here
abbrev pub bodies_over : Known → Bool
bodies_over k = releases? k.section || body? k.section && may_end k.body

-- the waiting PAIRs let it come: SWAP needs some, BEGIN none
unfoldable pub in_place_outside : Body → Outside → Bool
in_place_outside b (READ r w) = true
in_place_outside b (PAIR w o n) = true
in_place_outside b (SWAP r) = not (none? b.pairs)
in_place_outside b BEGIN = none? b.pairs

unfoldable pub in_place_body : Known → BodyCommand → Bool
unfolding in_place_outside
in_place_body k (LOAD r v) = body? k.section
in_place_body k (ADD r q) = body? k.section
in_place_body k (outside c) = outside_transaction k && in_place_outside k.body c
in_place_body k (inside c) = inside_transaction k

unfoldable pub in_place : Known → Command → Bool
unfolding in_place_body
in_place k (WORD v) = words? k.section
in_place k (BLOCK b) = words? k.section || blocks? k.section
in_place k TASK = words? k.section || blocks? k.section || body? k.section && may_end k.body
in_place k (RELEASE r) = bodies_over k
in_place k END = bodies_over k
in_place k (body c) = in_place_body k c

-- 5: A CEILING WOULD BE PASSED
-- room for x among the different numbers of a list
abbrev pub room : ℕ → ℕ → List ℕ → Bool
room ceiling x l = among x l || ltb (length l) ceiling

abbrev pub room_for_block : Body → Access → Bool
room_for_block b (GET r n o) = room max_touched n b.touched
room_for_block b (PUT n o r) = room max_touched n b.touched && room max_puts n b.puts

unfoldable pub under_ceiling_outside : Body → Outside → Bool
under_ceiling_outside b (READ r w) = true
under_ceiling_outside b (PAIR w o n) = ltb (length b.pairs) max_pairs
under_ceiling_outside b (SWAP r) = true
under_ceiling_outside b BEGIN = true

unfoldable pub under_ceiling_inside : Body → Inside → Bool
unfolding among
under_ceiling_inside b (access a) = room_for_block b a
under_ceiling_inside b COMMIT = true

unfoldable pub under_ceiling_body : Body → BodyCommand → Bool
unfolding under_ceiling_outside under_ceiling_inside
under_ceiling_body b (LOAD r v) = true
under_ceiling_body b (ADD r q) = true
under_ceiling_body b (outside c) = under_ceiling_outside b c
under_ceiling_body b (inside c) = under_ceiling_inside b c

unfoldable pub under_ceiling : Known → Command → Bool
unfolding under_ceiling_body
under_ceiling k (WORD v) = ltb k.counts.words max_words
under_ceiling k (BLOCK b) = ltb k.counts.blocks max_blocks
under_ceiling k TASK = ltb k.counts.tasks max_tasks
under_ceiling k (RELEASE r) = ltb k.counts.releases max_releases
under_ceiling k END = true
under_ceiling k (body c) = ltb k.counts.commands max_commands && under_ceiling_body k.body c

-- 6: OPERAND OUT OF RANGE, OR A WORD, BLOCK OR TASK NOT DECLARED
unfoldable pub in_range_outside : SheetCounts → Outside → Bool
in_range_outside n (READ r w) = leb r last_register && ltb w n.words
in_range_outside n (PAIR w old new) = ltb w n.words && leb old last_register && leb new last_register
in_range_outside n (SWAP r) = leb r last_register
in_range_outside n BEGIN = true

unfoldable pub in_range_inside : SheetCounts → Inside → Bool
in_range_inside n (access (GET r b o)) = leb r last_register && ltb b n.blocks && leb o last_offset
in_range_inside n (access (PUT b o r)) = ltb b n.blocks && leb o last_offset && leb r last_register
in_range_inside n COMMIT = true

unfoldable pub in_range_body : SheetCounts → BodyCommand → Bool
unfolding in_range_outside in_range_inside
in_range_body n (LOAD r v) = leb r last_register
in_range_body n (ADD r q) = leb r last_register && leb q last_register
in_range_body n (outside c) = in_range_outside n c
in_range_body n (inside c) = in_range_inside n c

unfoldable pub in_range : SheetCounts → Command → Bool
unfolding in_range_body
in_range n (WORD v) = true
in_range n (BLOCK b) = leb b.version last_version
in_range n TASK = true
in_range n (RELEASE r) = leb r.tick last_tick && ltb r.task n.tasks
in_range n END = true
in_range n (body c) = in_range_body n c

-- 7: WORD ALREADY IN THE WAITING PAIRS
unfoldable pub new_word_outside : Body → Outside → Bool
unfolding among
new_word_outside b (READ r w) = true
new_word_outside b (PAIR w old new) = not (among w b.pairs)
new_word_outside b (SWAP r) = true
new_word_outside b BEGIN = true

unfoldable pub new_word_body : Body → BodyCommand → Bool
unfolding new_word_outside
new_word_body b (LOAD r v) = true
new_word_body b (ADD r q) = true
new_word_body b (outside c) = new_word_outside b c
new_word_body b (inside c) = true

unfoldable pub new_word : Body → Command → Bool
unfolding new_word_body
new_word b (WORD v) = true
new_word b (BLOCK x) = true
new_word b TASK = true
new_word b (RELEASE r) = true
new_word b END = true
new_word b (body c) = new_word_body b c

-- 8: RELEASES NOT RISING, by tick and at equal ticks by task
abbrev pub before : Release → Release → Bool
before a b = ltb a.tick b.tick || eqb a.tick b.tick && ltb a.task b.task

unfoldable pub rising : Known → Command → Bool
rising k (WORD v) = true
rising k (BLOCK x) = true
rising k TASK = true
rising k (RELEASE r) = eqb k.counts.releases 0 || before k.last r
rising k END = true
rising k (body c) = true

-- at one command the lowest number wins
unfoldable pub lowest : Bool → Bool → Bool → Bool → Bool → Option Refusal
lowest false under range new rise = some misplaced
lowest true false range new rise = some ceiling_passed
lowest true true false new rise = some out_of_range
lowest true true true false rise = some word_repeated
lowest true true true true false = some releases_not_rising
lowest true true true true true = none

unfoldable pub fault_of : Known → Command → Option Refusal
unfolding lowest in_place under_ceiling in_range new_word rising
fault_of k c = lowest (in_place k c) (under_ceiling k c) (in_range k.counts c) (new_word k.body c) (rising k c)
