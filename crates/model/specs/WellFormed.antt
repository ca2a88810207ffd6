-- A well-formed sheet, said by itself: the bytes of words, blocks, bodies and releases that keep document 01's rules.
use Rattle.std.specs.Prelude.{ℕ, ◌≤◌, ◌≡◌, true, List, [], ◌∷◌, ◌++◌, map, length}
use Rattle.model.specs.Ceilings.{max_words, max_blocks, max_tasks, max_commands, max_releases, max_pairs, max_touched, max_puts}
use Rattle.model.specs.Command.{GET, PUT, READ, PAIR, SWAP, BEGIN, access, COMMIT, LOAD, ADD, outside, inside}
use Rattle.model.specs.Command.{Release, BodyCommand, Command, WORD, BLOCK, TASK, RELEASE, END, body, total}
use Rattle.model.specs.Fault.{SheetCounts, include_by, include, in_range, before}
use Rattle.model.specs.Sheet.{Sheet, counted}
use Rattle.model.specs.Encoding.{encode_all, ValuesFit}

-- THE COMMANDS OF A SHEET: sections in the order WORD, BLOCK, TASK with body, RELEASE, END
unfoldable pub tasks_of : List (List BodyCommand) → List Command
tasks_of [] = []
tasks_of (l ∷ ls) = TASK ∷ map body l ++ tasks_of ls

unfoldable pub commands_of : Sheet → List Command
unfolding tasks_of
commands_of s = map WORD s.words ++ map BLOCK s.blocks ++ tasks_of s.bodies ++ map RELEASE s.releases ++ (END ∷ [])

-- EVERY ELEMENT of a list
abbrev pub Each : {A : Type 0} → (A → Type 0) → List A → Type 0
Each P [] = Unit {0}
Each P (a ∷ l) = P a × Each P l

-- the different numbers of a list, after those seen before
unfoldable pub different_from : List ℕ → List ℕ → List ℕ
unfolding include_by
different_from seen [] = seen
different_from seen (x ∷ l) = different_from (include x seen) l

abbrev pub different : List ℕ → List ℕ
different l = different_from [] l

-- A BODY
-- LOAD, ADD and READ may stand outside a transaction wherever PAIRs may
abbrev pub Alone : BodyCommand → Type 0
Alone (LOAD r v) = Unit {0}
Alone (ADD r q) = Unit {0}
Alone (outside (READ r w)) = Unit {0}
Alone (outside (PAIR w old new)) = ⊥
Alone (outside (SWAP r)) = ⊥
Alone (outside BEGIN) = ⊥
Alone (inside c) = ⊥

-- what stands before a SWAP: its PAIRs, and others among them
abbrev pub BeforeSwap : BodyCommand → Type 0
BeforeSwap (LOAD r v) = Unit {0}
BeforeSwap (ADD r q) = Unit {0}
BeforeSwap (outside (READ r w)) = Unit {0}
BeforeSwap (outside (PAIR w old new)) = Unit {0}
BeforeSwap (outside (SWAP r)) = ⊥
BeforeSwap (outside BEGIN) = ⊥
BeforeSwap (inside c) = ⊥

-- what stands between BEGIN and COMMIT
abbrev pub BeforeCommit : BodyCommand → Type 0
BeforeCommit (LOAD r v) = Unit {0}
BeforeCommit (ADD r q) = Unit {0}
BeforeCommit (outside c) = ⊥
BeforeCommit (inside (access a)) = Unit {0}
BeforeCommit (inside COMMIT) = ⊥

-- the words of the PAIRs; the blocks of the GETs and PUTs, and of the PUTs
abbrev pub pair_words : List BodyCommand → List ℕ
pair_words [] = []
pair_words (LOAD r v ∷ l) = pair_words l
pair_words (ADD r q ∷ l) = pair_words l
pair_words (outside (READ r w) ∷ l) = pair_words l
pair_words (outside (PAIR w old new) ∷ l) = w ∷ pair_words l
pair_words (outside (SWAP r) ∷ l) = pair_words l
pair_words (outside BEGIN ∷ l) = pair_words l
pair_words (inside c ∷ l) = pair_words l

abbrev pub named_blocks : List BodyCommand → List ℕ
named_blocks [] = []
named_blocks (LOAD r v ∷ l) = named_blocks l
named_blocks (ADD r q ∷ l) = named_blocks l
named_blocks (outside c ∷ l) = named_blocks l
named_blocks (inside (access (GET r b o)) ∷ l) = b ∷ named_blocks l
named_blocks (inside (access (PUT b o r)) ∷ l) = b ∷ named_blocks l
named_blocks (inside COMMIT ∷ l) = named_blocks l

abbrev pub put_blocks : List BodyCommand → List ℕ
put_blocks [] = []
put_blocks (LOAD r v ∷ l) = put_blocks l
put_blocks (ADD r q ∷ l) = put_blocks l
put_blocks (outside c ∷ l) = put_blocks l
put_blocks (inside (access (GET r b o)) ∷ l) = put_blocks l
put_blocks (inside (access (PUT b o r)) ∷ l) = b ∷ put_blocks l
put_blocks (inside COMMIT ∷ l) = put_blocks l

-- one PAIR at least and eight at most, no word twice
pub record GoodPairs (l : List BodyCommand) : Type 0 where
  pub each : Each BeforeSwap l
  pub some : 1 ≤ length (pair_words l)
  pub most : length (pair_words l) ≤ max_pairs
  pub once : different (pair_words l) ≡ pair_words l

-- eight different blocks at most, four of them PUT
pub record GoodTransaction (l : List BodyCommand) : Type 0 where
  pub each : Each BeforeCommit l
  pub blocks : length (different (named_blocks l)) ≤ max_touched
  pub puts : length (different (put_blocks l)) ≤ max_puts

-- PAIRs are closed by a SWAP, BEGIN by a COMMIT
pub data Closed : List BodyCommand → Type 0 where
  ends : Closed []
  alone : {c : BodyCommand} {l : List BodyCommand} → Alone c → Closed l → Closed (c ∷ l)
  exchange : (pairs : List BodyCommand) (r : ℕ) (l : List BodyCommand) → GoodPairs pairs → Closed l
      → Closed (pairs ++ outside (SWAP r) ∷ l)
  transaction : (commands l : List BodyCommand) → GoodTransaction commands → Closed l
      → Closed (outside BEGIN ∷ commands ++ inside COMMIT ∷ l)

pub record GoodBody (l : List BodyCommand) : Type 0 where
  pub some : 1 ≤ length l
  pub closed : Closed l

-- RELEASES rise by tick, at equal ticks by task
abbrev pub Rising : List Release → Type 0
Rising [] = Unit {0}
Rising (r ∷ []) = Unit {0}
Rising (r ∷ q ∷ l) = (before r q ≡ true) × Rising (q ∷ l)

-- THE RULES
abbrev pub counts_of : Sheet → SheetCounts
counts_of s = counted (length s.words) (length s.blocks) (length s.bodies) (total (map length s.bodies)) (length s.releases)

pub record Rules (s : Sheet) : Type 0 where
  -- one task at least
  pub some_task : 1 ≤ length s.bodies
  -- no body is empty, PAIRs and BEGIN are closed
  pub bodies : Each GoodBody s.bodies
  -- ceilings
  pub words : length s.words ≤ max_words
  pub blocks : length s.blocks ≤ max_blocks
  pub tasks : length s.bodies ≤ max_tasks
  pub commands : total (map length s.bodies) ≤ max_commands
  pub releases : length s.releases ≤ max_releases
  -- operands in their ranges; words, blocks and tasks declared; values of 32 bits
  pub ranges : Each (λ c. in_range (counts_of s) c ≡ true) (commands_of s)
  pub values : Each ValuesFit (commands_of s)
  pub rising : Rising s.releases

-- WELL FORMED
pub record WellFormed (bytes : List ℕ) : Type 0 where
  pub sheet : Sheet
  pub encoded : bytes ≡ encode_all (commands_of sheet)
  pub rules : Rules sheet
