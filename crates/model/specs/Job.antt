-- A task and its job: idle, in a plain command, in a read, in an exchange or in a transaction, each with its next step.
use Rattle.std.specs.Prelude.{ℕ, suc, Bool, List, [], ◌∷◌, replicate}
use Rattle.model.specs.Ceilings.{registers}
use Rattle.model.specs.Command.{Access, BodyCommand}
use Rattle.model.specs.Word.{Memory, Reading}
use Rattle.model.specs.Exchange.{Entry, Exchange}
use Rattle.model.specs.Arguments.{Arguments}

-- A block in a transaction: not touched; its bank word read and that value remembered; PUT as well, with the number of its copy slot.
pub data Touched : Type 0 where
  untouched : Touched
  remembered : ℕ → Touched
  copied : ℕ → ℕ → Touched

-- The registers that BEGIN kept, the commands after BEGIN, the blocks by their numbers, and how many copy slots are used.
pub record Transaction : Type 0 where
  pub kept : List ℕ
  pub commands : List BodyCommand
  pub blocks : List Touched
  pub used : ℕ

-- The inner step of a transaction: between inner steps; in the first reading of a bank word; after n copied values;
-- in the second reading, with the value that GET fetched; in the exchange of COMMIT.
pub data Inner : Type 0 where
  between : Inner
  first : Access → Reading → Inner
  copying : Access → ℕ → Inner
  again : Access → ℕ → Reading → Inner
  committing : Exchange → Inner

-- in a read: its register and word; in an exchange: the register for the answer
pub data Phase : Type 0 where
  idle : Phase
  plain : Phase
  reading : ℕ → ℕ → Reading → Phase
  exchanging : ℕ → Exchange → Phase
  transacting : Transaction → Inner → Phase

-- THE JOB: its phase, the commands still to do, the one at work first, the registers and the waiting PAIRs.
pub record Job : Type 0 where
  pub phase : Phase
  pub commands : List BodyCommand
  pub registers : List ℕ
  pub pairs : List Entry

abbrev pub job : Phase → List BodyCommand → List ℕ → List Entry → Job
job f l rs ps = record { phase = f; commands = l; registers = rs; pairs = ps }

-- no job yet: all registers 0
abbrev pub no_job : Job
no_job = job idle [] (replicate registers 0) []

-- THE COUNTS of a task, in the order of its T line: jobs finished, jobs spent, attempts lost, ticks used, releases dropped.
pub record Counts : Type 0 where
  pub finished : ℕ
  pub spent : ℕ
  pub lost : ℕ
  pub ticks : ℕ
  pub dropped : ℕ

pub data Count : Type 0 where
  finished spent lost ticks dropped : Count

abbrev pub counts : ℕ → ℕ → ℕ → ℕ → ℕ → Counts
counts f s l t d = record { finished = f; spent = s; lost = l; ticks = t; dropped = d }

abbrev pub no_counts : Counts
no_counts = counts 0 0 0 0 0

-- as a list, for the T line
abbrev pub count_list : Counts → List ℕ
count_list c = c.finished ∷ c.spent ∷ c.lost ∷ c.ticks ∷ c.dropped ∷ []

-- a count rises by one
abbrev pub raised : Count → Counts → Counts
raised finished c = counts (suc c.finished) c.spent c.lost c.ticks c.dropped
raised spent c = counts c.finished (suc c.spent) c.lost c.ticks c.dropped
raised lost c = counts c.finished c.spent (suc c.lost) c.ticks c.dropped
raised ticks c = counts c.finished c.spent c.lost (suc c.ticks) c.dropped
raised dropped c = counts c.finished c.spent c.lost c.ticks (suc c.dropped)

-- A TASK: its body, its copy slots, which hold the numbers of block stores, its counts and its job.
pub record Task : Type 0 where
  pub body : List BodyCommand
  pub copies : List ℕ
  pub counts : Counts
  pub job : Job

abbrev pub task : List BodyCommand → List ℕ → Counts → Job → Task
task b cs n j = record { body = b; copies = cs; counts = n; job = j }

-- the task with that job, and with a count raised
abbrev pub with_job : Task → Job → Task
with_job t j = task t.body t.copies t.counts j

abbrev pub counting : Count → Task → Task
counting c t = task t.body t.copies (raised c t.counts) t.job

abbrev pub in_phase : Task → Phase → Task
in_phase t f = with_job t (job f t.job.commands t.job.registers t.job.pairs)

abbrev pub rest : List BodyCommand → List BodyCommand
rest [] = []
rest (c ∷ l) = l

-- the command is done: the job goes on with the next, or is finished
unfoldable pub done_by : List BodyCommand → Task → List ℕ → List Entry → List ℕ → Task
done_by [] t rs ps cs = task t.body cs (raised finished t.counts) (job idle [] rs ps)
done_by (c ∷ l) t rs ps cs = task t.body cs t.counts (job plain (c ∷ l) rs ps)

abbrev pub done : Task → List ℕ → List Entry → List ℕ → Task
done t rs ps cs = done_by (rest t.job.commands) t rs ps cs

-- a job starts with all registers 0
abbrev pub started : Task → Task
started t = with_job t (job plain t.body (replicate registers 0) [])

-- the job ends as spent, registers left as they are
abbrev pub ended : Task → Task
ended t = counting spent (with_job t (job idle [] t.job.registers []))

-- WHAT A STATEMENT DID, for whoever watches the run: an operation began; a READ gave its value; the Commit of a SWAP said yes;
-- a SWAP gave its answer; a GET gave its value; an attempt was lost; the Commit of a transaction said yes; it ended after that,
-- with nothing touched, or spent.
pub data Deed : Type 0 where
  nothing_done : Deed
  began : Arguments → Deed
  read_gave : ℕ → Deed
  swap_committed : Deed
  swap_answered : Bool → Deed
  get_gave : ℕ → Deed
  attempt_lost : Deed
  transaction_committed : Deed
  transaction_ended : Deed
  ended_untouched : Deed
  ended_spent : Deed

-- what a statement leaves of the shared memory and of its task, and what it did
pub record Turn : Type 0 where
  pub memory : Memory
  pub task : Task
  pub did : Deed

abbrev pub turn : Memory → Task → Deed → Turn
turn m t d = record { memory = m; task = t; did = d }

-- AN ATTEMPT IS LOST: its task, as it starts over, counts it
abbrev pub loses_attempt : Memory → Task → Turn
loses_attempt m t = turn m (counting lost t) attempt_lost
