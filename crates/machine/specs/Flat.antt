-- THE FLAT MACHINE, the code's: what all tasks share, each task's own record and job, the mask of unfinished jobs, how many releases wait
-- behind each job, the task whose job has ended with one waiting, the place of the next release in the sheet and the ticks done.
use Rattle.std.specs.Prelude.{ℕ, zero, suc, ◌+◌, ◌-◌, ◌/◌, ◌%◌, ◌^◌, ◌<◌, ◌≤◌, ◌≡◌, Bool, true, false, ◌&&◌, eqb}
use Rattle.std.specs.Prelude.{List, get_or, set, replicate, Option, Some, None}
use Rattle.model.specs.Lists.{at}
use Rattle.model.specs.Command.{command_at}
use Rattle.commands.specs.declared.BodyCommand.{BodyCommand}
use Rattle.state.specs.State.{Shared, Own, no_own}
use Rattle.exchanges.specs.Places.{if, Noted, noted, Left, left}
use Rattle.jobs.specs.Jobs.{job, in_phase, ticks, counted}
use Rattle.jobs.specs.Jobs as count
use Rattle.statements.specs.Statements.{plain?, statement}
use Rattle.jobs.specs.declared.Phase.TheVariants as P
use Rattle.jobs.specs.declared.Job.{Job}
use Rattle.arrivals.specs.Releases.{unfinished?, pending_at, coming_by, stops_by, waiting_by, begun_by, started_by, record_by}
use Rattle.arrivals.specs.declared.releases.Coming.{Coming}
use Rattle.arrivals.specs.declared.releases.Coming.TheVariants.{Due}
use Rattle.machine.specs.declared.run.Paused.{Paused}

-- the highest of the tasks below k that a mask has, 0 for none
unfoldable pub top_of : ℕ → ℕ → ℕ
top_of zero m = 0
top_of (suc k) m = if (eqb (m / 2 ^ k) 0) (top_of k m) k

-- THE MACHINE
pub record FlatMachine : Type 0 where
  pub memory : Shared
  pub tasks : List Own
  pub jobs : List Job
  pub mask : ℕ
  pub waiting : List ℕ
  pub ready : Option ℕ
  pub place : ℕ
  pub ticks : ℕ

abbrev pub flat : Shared → List Own → List Job → ℕ → List ℕ → Option ℕ → ℕ → ℕ → FlatMachine
flat m ts js k ws y r n = record { memory = m; tasks = ts; jobs = js; mask = k; waiting = ws; ready = y; place = r; ticks = n }

abbrev pub no_job : Job
no_job = job P.Idle 0 0 0 0 0

abbrev pub job_of : FlatMachine → ℕ → Job
job_of w p = get_or w.jobs p no_job

abbrev pub own_of : FlatMachine → ℕ → Own
own_of w p = get_or w.tasks p no_own

-- how many releases wait behind the job of task p
abbrev pub waiting_count : FlatMachine → ℕ → ℕ
waiting_count w p = get_or w.waiting p 0

-- A RELEASE to task p arrives
abbrev pub released_by : List ℕ → FlatMachine → ℕ → ℕ → Job → FlatMachine
released_by bounds w p next j =
    flat w.memory
    (set w.tasks p (record_by (unfinished? j.phase) (waiting_count w p) (own_of w p)))
    (set w.jobs p (started_by (unfinished? j.phase) j (at 0 bounds p)))
    (begun_by (unfinished? j.phase) w.mask p)
    (set w.waiting p (waiting_by (unfinished? j.phase) (waiting_count w p)))
    None
    next
    w.ticks

unfoldable pub released : List ℕ → FlatMachine → ℕ → ℕ → FlatMachine
released bounds w task next = released_by bounds w (task % 8) next (job_of w (task % 8))

-- A TICK
-- a job that stands where its body ends is finished
abbrev pub closed_by : Bool → Own → Job → Noted Job
closed_by true t j = noted (in_phase j P.Idle) (counted t count.finished)
closed_by false t j = noted j t

abbrev pub closed : ℕ → Own → Job → Noted Job
closed end t j = closed_by (plain? j.phase && eqb j.at end) t j

-- and its tick is counted
abbrev pub finished : ℕ → Own → Job → Noted Job
finished end t j = noted (closed end t j).next (counted (closed end t j).task ticks)

abbrev pub tick_of : ℕ → Left Job → Left Job
tick_of end l = left (finished end l.task l.next).next l.memory (finished end l.task l.next).task

-- the mask without a task whose job is not unfinished any more
abbrev pub left_by : Bool → ℕ → ℕ → ℕ
left_by true mask i = mask
left_by false mask i = mask - 2 ^ i

-- the task that ran, if its job has ended and a release waits behind it
abbrev pub ready_by : Bool → ℕ → ℕ → Option ℕ → Option ℕ
ready_by true waiting p ready = ready
ready_by false waiting p ready = if (eqb waiting 0) ready (Some p)

-- task p has done a statement that left the shared memory so, its own record and its job
abbrev pub ticked_with : FlatMachine → ℕ → Shared → Noted Job → FlatMachine
ticked_with w p m c =
    flat m
    (set w.tasks p (counted c.task ticks))
    (set w.jobs p c.next)
    (left_by (unfinished? c.next.phase) w.mask p)
    w.waiting
    (ready_by (unfinished? c.next.phase) (waiting_count w p) p w.ready)
    w.place
    (w.ticks + 1)

abbrev pub ticked_by : ℕ → FlatMachine → ℕ → Left Job → FlatMachine
ticked_by end w p l = ticked_with w p l.memory (closed end l.task l.next)

-- one statement of task p
abbrev pub ticked_for : List BodyCommand → List ℕ → FlatMachine → ℕ → FlatMachine
ticked_for program bounds w p = ticked_by (at 0 bounds (p + 1)) w p (statement program w.memory (own_of w p) p (job_of w p))

-- a tick in which nobody has work
abbrev pub passed : FlatMachine → FlatMachine
passed w = flat w.memory w.tasks w.jobs w.mask w.waiting w.ready w.place (w.ticks + 1)

-- the highest task with an unfinished job does one statement; with none the tick passes
unfoldable pub ticked : List BodyCommand → List ℕ → FlatMachine → FlatMachine
ticked program bounds w = if (eqb w.mask 0) (passed w) (ticked_for program bounds w (top_of 8 w.mask))

-- THE RUN
abbrev pub coming_in : List ℕ → FlatMachine → Coming
coming_in sheet w = coming_by w.ready w.place (pending_at (command_at sheet w.place)) w.ticks

-- the run of a program, whose bodies lie within those bounds, from one machine ends in another
pub data Ends (sheet : List ℕ) (program : List BodyCommand) (bounds : List ℕ) (limit : ℕ)
    : FlatMachine → FlatMachine → Type 0 where
  limited : {w : FlatMachine} → limit ≤ w.ticks → Ends sheet program bounds limit w w
  stopped : {w : FlatMachine} → stops_by (coming_in sheet w) w.mask ≡ true → Ends sheet program bounds limit w w
  arrives : {w u : FlatMachine} (task next : ℕ) → w.ticks < limit → coming_in sheet w ≡ Due task next
      → Ends sheet program bounds limit (released bounds w task next) u
      → Ends sheet program bounds limit w u
  moves : {w u : FlatMachine} → w.ticks < limit → ((task next : ℕ) → coming_in sheet w ≡ Due task next → ⊥)
      → stops_by (coming_in sheet w) w.mask ≡ false
      → Ends sheet program bounds limit (ticked program bounds w) u → Ends sheet program bounds limit w u

-- a run between two ticks, with its records
abbrev pub flat_in : Shared → List Own → Paused → FlatMachine
flat_in m ts q = flat m ts q.jobs q.mask q.waiting q.ready q.place q.ticks

-- no job has run
abbrev pub paused_at : ℕ → Paused
paused_at place =
    record { jobs = replicate 8 no_job; mask = 0; waiting = replicate 8 0; ready = None; place = place; ticks = 0 }
