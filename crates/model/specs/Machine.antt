-- Ticks: waiting releases start, releases arrive, the highest task with an unfinished job does one statement, until the run stops.
use Rattle.std.specs.Prelude.{ℕ, zero, suc, Bool, true, false, ◌&&◌, List, [], ◌∷◌, ◌++◌, map, eqb, ltb, length}
use Rattle.model.specs.Ceilings.{max_tasks, max_waiting}
use Rattle.model.specs.Lists.{at, replace}
use Rattle.model.specs.Command.{Release, Outside, READ, PAIR, SWAP, BEGIN, BodyCommand, LOAD, ADD, outside, inside}
use Rattle.model.specs.Word.{Memory, loading, Read, reads, gives, read_tick}
use Rattle.model.specs.Exchange.{Entry, entry, Exchange, exchange_of, commit_said_yes, Exchanged, goes, ends, exchange_tick, start}
use Rattle.model.specs.Arguments.{Pair, Arguments, read_of, swap_of, transaction_of, until_commit}
use Rattle.model.specs.Job.{between, Phase, idle, plain, reading, exchanging, transacting, no_job}
use Rattle.model.specs.Job.{no_counts, ticks, dropped, Task, task, counting, in_phase, done, done_by, started}
use Rattle.model.specs.Job.{Deed, nothing_done, began, read_gave, swap_committed, swap_answered, Turn, turn}
use Rattle.model.specs.Transaction.{fresh_transaction, within, loaded, added, transaction_tick}

-- STATEMENTS
-- 1 yes or 0 no
abbrev pub answer : Bool → ℕ
answer true = 1
answer false = 0

unfoldable pub read_by : Memory → Task → ℕ → ℕ → Read → Turn
unfolding replace done_by
read_by m t r w (reads s) = turn m (in_phase t (reading r w s)) nothing_done
read_by m t r w (gives v) = turn m (done t (replace t.job.registers r v) t.job.pairs t.copies) (read_gave v)

-- a tick of the exchange, whose Commit may have said yes in it
abbrev pub swap_committed_if : Bool → Deed
swap_committed_if true = swap_committed
swap_committed_if false = nothing_done

unfoldable pub swap_by : Task → ℕ → Exchange → Exchanged → Turn
unfolding replace done_by
swap_by t r x (goes m x') = turn m (in_phase t (exchanging r x')) (swap_committed_if (commit_said_yes x x'))
swap_by t r x (ends m yes?) = turn m (done t (replace t.job.registers r (answer yes?)) [] t.copies) (swap_answered yes?)

abbrev pub pair_of : Entry → Pair
pair_of e = record { word = e.cell; old = e.old; new = e.new }

-- the first tick of an operation, fed those arguments
abbrev pub beginning : Arguments → Turn → Turn
beginning a u = turn u.memory u.task (began a)

-- PAIR records both values
abbrev pub recorded : Task → ℕ → ℕ → ℕ → List Entry
recorded t w o n = t.job.pairs ++ (entry w (at 0 t.job.registers o) (at 0 t.job.registers n) ∷ [])

-- BEGIN keeps the registers
abbrev pub begun : Task → List BodyCommand → Task
begun t l = within t l t.job.registers (fresh_transaction t.job.registers l) between

-- a command that stands only outside a transaction, with those after it
unfoldable pub outside_tick : ℕ → Memory → Task → List BodyCommand → Outside → Turn
unfolding at done_by read_tick read_by exchange_tick swap_by until_commit
outside_tick p m t l (READ r w) = beginning (read_of w) (read_by m t r w (read_tick m w loading))
outside_tick p m t l (PAIR w o n) = turn m (done t t.job.registers (recorded t w o n) t.copies) nothing_done
outside_tick p m t l (SWAP r) =
    let x : Exchange = exchange_of t.job.pairs in
    beginning (swap_of (map pair_of t.job.pairs)) (swap_by t r x (exchange_tick p m x start))
outside_tick p m t l BEGIN = turn m (begun t l) (began (transaction_of t.job.registers (until_commit l)))

-- the command at work outside a transaction; the sheet check lets none of inside stand there
unfoldable pub plain_tick : ℕ → Memory → Task → List BodyCommand → Turn
unfolding at replace done_by outside_tick
plain_tick p m t [] = turn m t nothing_done
plain_tick p m t (LOAD r v ∷ l) = turn m (done t (loaded t.job.registers r v) t.job.pairs t.copies) nothing_done
plain_tick p m t (ADD r q ∷ l) = turn m (done t (added t.job.registers r q) t.job.pairs t.copies) nothing_done
plain_tick p m t (outside c ∷ l) = outside_tick p m t l c
plain_tick p m t (inside c ∷ l) = turn m t nothing_done

-- one statement of task p
unfoldable pub statement : ℕ → Memory → Task → Phase → Turn
unfolding plain_tick read_tick read_by exchange_tick swap_by transaction_tick
statement p m t idle = turn m t nothing_done
statement p m t plain = plain_tick p m t t.job.commands
statement p m t (reading r w s) = read_by m t r w (read_tick m w s)
statement p m t (exchanging r x) = swap_by t r x (exchange_tick p m x x.step)
statement p m t (transacting x s) = transaction_tick p m t x s

-- THE MACHINE: the tasks by their numbers, the releases that wait behind each task's job, the oldest first, the releases to come,
-- the ticks done
pub record Machine : Type 0 where
  pub memory : Memory
  pub tasks : List Task
  pub waiting : List (List Release)
  pub releases : List Release
  pub now : ℕ

abbrev pub machine : Memory → List Task → List (List Release) → List Release → ℕ → Machine
machine m ts ws rs n = record { memory = m; tasks = ts; waiting = ws; releases = rs; now = n }

abbrev pub no_task : Task
no_task = task [] [] no_counts no_job

abbrev pub task_at : List Task → ℕ → Task
task_at ts p = at no_task ts p

abbrev pub waiting_at : List (List Release) → ℕ → List Release
waiting_at ws p = at [] ws p

abbrev pub unfinished : Phase → Bool
unfinished idle = false
unfinished plain = true
unfinished (reading r w s) = true
unfinished (exchanging r x) = true
unfinished (transacting x s) = true

-- WHO RUNS. THE ORDER OF URGENCY: the job of p runs before that of q. Now by task number; the machine is there for an order by its jobs.
abbrev pub runs_before : Machine → ℕ → ℕ → Bool
runs_before m p q = ltb q p

pub data Running : Type 0 where
  nobody : Running
  running : ℕ → Running

abbrev pub first_by : Bool → ℕ → ℕ → Running
first_by true p q = running p
first_by false p q = running q

abbrev pub first_of : Machine → ℕ → Running → Running
first_of m p nobody = running p
first_of m p (running q) = first_by (runs_before m p q) p q

unfoldable pub candidate : Bool → Machine → ℕ → Running → Running
candidate true m p best = first_of m p best
candidate false m p best = best

-- of the tasks from number p on, and the best of those before them
unfoldable pub running_from : Machine → ℕ → List Task → Running → Running
unfolding candidate
running_from m p [] best = best
running_from m p (t ∷ l) best = running_from m (suc p) l (candidate (unfinished t.job.phase) m p best)

-- the task whose unfinished job runs before all others
unfoldable pub running_of : Machine → Running
unfolding running_from
running_of m = running_from m 0 m.tasks nobody

-- RELEASES
-- the job of task p is unfinished
abbrev pub unfinished_at : Machine → ℕ → Bool
unfinished_at m p = unfinished (task_at m.tasks p).job.phase

-- task p, changed
abbrev pub with_task : ℕ → Task → Machine → Machine
with_task p t m = machine m.memory (replace m.tasks p t) m.waiting m.releases m.now

-- a job of task p starts
abbrev pub starting : ℕ → Machine → Machine
starting p m = with_task p (started (task_at m.tasks p)) m

-- those wait behind the job of task p
abbrev pub behind : ℕ → List Release → Machine → Machine
behind p l m = machine m.memory m.tasks (replace m.waiting p l) m.releases m.now

-- a release to task p is dropped, and the task counts it
abbrev pub dropping : ℕ → Machine → Machine
dropping p m = with_task p (counting dropped (task_at m.tasks p)) m

-- THE FATE of a release: it started a job, in that tick; it waits; or neither
pub data Fate : Type 0 where
  started_job : ℕ → Fate
  waits : Fate
  neither : Fate

-- By: the task's job is unfinished, and there is room behind it.
-- A release to a task whose job is unfinished waits behind it, or is dropped where there is no room;
-- else a job starts, in tick t.
abbrev pub fate_by : Bool → Bool → ℕ → Fate
fate_by false room t = started_job t
fate_by true true t = waits
fate_by true false t = neither

abbrev pub room_at : Machine → ℕ → Bool
room_at m p = ltb (length (waiting_at m.waiting p)) max_waiting

-- at its arrival
abbrev pub fate_of : Release → Machine → Fate
fate_of r m = fate_by (unfinished_at m r.task) (room_at m r.task) m.now

-- it comes to its task with that fate
unfoldable pub released_to : Fate → Release → Machine → Machine
unfolding at replace
released_to (started_job t) r m = starting r.task m
released_to waits r m = behind r.task (waiting_at m.waiting r.task ++ (r ∷ [])) m
released_to neither r m = dropping r.task m

abbrev pub released : Release → Machine → Machine
released r m = released_to (fate_of r m) r m

abbrev pub to_come : Machine → List Release → Machine
to_come m rs = machine m.memory m.tasks m.waiting rs m.now

abbrev pub due : Release → Machine → Bool
due r m = eqb r.tick m.now

unfoldable pub arrive_by : Bool → (Machine → Machine) → Release → List Release → Machine → Machine
unfolding at released_to
arrive_by true go r l m = go (released r m)
arrive_by false go r l m = to_come m (r ∷ l)

-- this tick's releases arrive, the others stay to come
unfoldable pub arrive : List Release → Machine → Machine
unfolding arrive_by
arrive [] m = to_come m []
arrive (r ∷ l) m =
    let go : Machine → Machine = arrive l in
    arrive_by (due r m) go r l m

-- By: the job is unfinished. Where it has ended and some wait behind it, the oldest starts, and those after it go on waiting.
unfoldable pub oldest_by : {A : Type 0} → Bool → List Release → A → (List Release → A) → A
oldest_by true l stays starts = stays
oldest_by false [] stays starts = stays
oldest_by false (r ∷ l) stays starts = starts l

abbrev pub start_by : Bool → List Release → ℕ → Machine → Machine
start_by b l p m = oldest_by b l m (λ others. starting p (behind p others m))

abbrev pub start_oldest : ℕ → Machine → Machine
start_oldest p m = start_by (unfinished_at m p) (waiting_at m.waiting p) p m

-- so for all tasks below n
unfoldable pub start_waiting : ℕ → Machine → Machine
unfolding at replace oldest_by
start_waiting zero m = m
start_waiting (suc p) m = start_waiting p (start_oldest p m)

-- WHAT COMES BEFORE A TICK'S STATEMENT: those that waited start, then this tick's releases arrive
unfoldable pub enter : Machine → Machine
unfolding arrive start_waiting
enter m = arrive m.releases (start_waiting max_tasks m)

-- TICKS
-- one statement of task p
abbrev pub turn_of : Machine → ℕ → Turn
turn_of m p = statement p m.memory (task_at m.tasks p) (task_at m.tasks p).job.phase

abbrev pub after_turn : Machine → ℕ → Turn → Machine
after_turn m p u =
    machine u.memory (replace m.tasks p (counting ticks u.task)) m.waiting m.releases (suc m.now)

-- with nobody to run the tick is idle
unfoldable pub move : Machine → Running → Machine
unfolding at replace statement
move m nobody = machine m.memory m.tasks m.waiting m.releases (suc m.now)
move m (running p) = after_turn m p (turn_of m p)

unfoldable pub move_any : Machine → Machine
unfolding move running_of
move_any m = move m (running_of m)

unfoldable pub tick : Machine → Machine
unfolding enter move_any
tick m = move_any (enter m)

abbrev pub none? : List Release → Bool
none? [] = true
none? (r ∷ l) = false

abbrev pub none_waits : List (List Release) → Bool
none_waits [] = true
none_waits (l ∷ ls) = none? l && none_waits ls

abbrev pub nobody? : Running → Bool
nobody? nobody = true
nobody? (running p) = false

-- no job is unfinished, no release waits and none is to come
unfoldable pub over : Machine → Bool
unfolding running_of
over m = none? m.releases && none_waits m.waiting && nobody? (running_of m)

unfoldable pub run_by : Bool → (Machine → Machine) → Machine → Machine
unfolding tick
run_by true go m = m
run_by false go m = go (tick m)

-- the run, with the limit of ticks
unfoldable pub run : ℕ → Machine → Machine
unfolding run_by over
run zero m = m
run (suc n) m =
    let go : Machine → Machine = run n in
    run_by (over m) go m

-- BESIDE THE RUN: what an observer has who is shown the machine before each tick that the run does, with what he had so far
unfoldable pub beside_by : {A : Type 0} → Bool → (Machine → A → A) → (Machine → A → A) → Machine → A → A
unfolding tick
beside_by true see go m a = a
beside_by false see go m a = go (tick m) (see m a)

-- the same machine, the same limit, the same stop
unfoldable pub beside : {A : Type 0} → (Machine → A → A) → ℕ → Machine → A → A
unfolding beside_by over
beside see zero m a = a
beside {A} see (suc n) m a =
    let go : Machine → A → A = beside see n in
    beside_by (over m) see go m a
