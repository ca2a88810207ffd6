-- The next release, and what a release does to its task: it waits behind an unfinished job, or is dropped and counted, or a job starts.
use Rattle.std.specs.Prelude.{ℕ, ◌+◌, ◌-◌, ◌%◌, ◌^◌, Bool, true, false, ◌==◌, nat_lt, Option, Some, None}
use Rattle.model.specs.Ceilings.{max_waiting}
use Rattle.model.specs.Command as M
use Rattle.commands.specs.declared.Command.{Command}
use Rattle.commands.specs.declared.Command.TheVariants as C
use Rattle.state.specs.State.{Own, with_registers}
use Rattle.exchanges.specs.Places.{if}
use Rattle.jobs.specs.Jobs.{job_at, dropped, counted, zeroed}
use Rattle.jobs.specs.declared.Phase.{Phase}
use Rattle.jobs.specs.declared.Phase.TheVariants as P
use Rattle.jobs.specs.declared.Job.{Job}
use Rattle.arrivals.specs.declared.releases.Pending.{Pending}
use Rattle.arrivals.specs.declared.releases.Coming.{Coming}
use Rattle.arrivals.specs.declared.releases.Coming.TheVariants.{Nothing, Later, Due}

-- whether a job is unfinished, by its phase
abbrev pub unfinished? : Phase → Bool
unfinished? P.Idle = false
unfinished? P.Plain = true
unfinished? (P.Read r w s) = true
unfinished? (P.Exchange r s) = true
unfinished? (P.Transaction i) = true

-- THE NEXT RELEASE, by the command at the place where releases are read
abbrev pub release_after : ℕ → ℕ → ℕ → Option Pending
release_after tick task next = Some (record { tick = tick; task = task; after = next })

abbrev pub pending_by : Command → ℕ → Option Pending
pending_by (C.Word v) next = None
pending_by (C.Block v) next = None
pending_by C.Task next = None
pending_by (C.Release r) next = release_after r.tick r.task next
pending_by C.End next = None
pending_by (C.Body c) next = None

abbrev pub pending_at : M.Found → Option Pending
pending_at (M.refused f place) = None
pending_at (M.found (M.RELEASE r) next) = release_after r.tick r.task next
pending_at (M.found (M.WORD v) next) = None
pending_at (M.found (M.BLOCK b) next) = None
pending_at (M.found M.TASK next) = None
pending_at (M.found M.END next) = None
pending_at (M.found (M.body c) next) = None

-- whether it is due at a tick
abbrev pub due_by : Bool → ℕ → ℕ → Coming
due_by true task next = Due task next
due_by false task next = Later

abbrev pub coming_of : Option Pending → ℕ → Coming
coming_of (Some q) tick = due_by (q.tick == tick) q.task q.after
coming_of None tick = Nothing

-- WHAT COMES NEXT: ahead of a tick's releases, one that waits behind a job that has ended
abbrev pub coming_by : Option ℕ → ℕ → Option Pending → ℕ → Coming
coming_by (Some ready) place q tick = Due ready place
coming_by None place q tick = coming_of q tick

abbrev pub stops_by : Coming → ℕ → Bool
stops_by Nothing mask = mask == 0
stops_by Later mask = false
stops_by (Due task next) mask = false

-- the tick up to which no release comes, at most the limit
abbrev pub until_of : Option Pending → ℕ → ℕ
until_of (Some q) limit = if (nat_lt q.tick limit) q.tick limit
until_of None limit = limit

-- the tick after an idle one: all before a release's are idle
abbrev pub idled_by : Option Pending → ℕ → ℕ → ℕ
idled_by q tick limit = if (nat_lt tick (until_of q limit)) (until_of q limit) (tick + 1)

-- A RELEASE to task p arrives. By: the task's job is unfinished. Then it waits, or is dropped where as many wait as may, and the task
-- counts it; else a job starts with all registers 0, and one fewer waits if any did.
abbrev pub dropped_by : Bool → ℕ → Own → Own
dropped_by true waiting t = if (nat_lt waiting max_waiting) t (counted t dropped)
dropped_by false waiting t = t

abbrev pub waiting_by : Bool → ℕ → ℕ
waiting_by true waiting = if (nat_lt waiting max_waiting) (waiting + 1) waiting
waiting_by false waiting = waiting - 1

abbrev pub begun_by : Bool → ℕ → ℕ → ℕ
begun_by true mask i = mask
begun_by false mask i = (mask + 2 ^ i) % 4294967296

abbrev pub zeroing : ℕ → Own → Own
zeroing n t = with_registers t (zeroed n t.registers)

abbrev pub zeroed_by : Bool → Own → Own
zeroed_by true t = t
zeroed_by false t = zeroing 8 t

abbrev pub started_by : Bool → Job → ℕ → Job
started_by true j line = j
started_by false j line = job_at P.Plain line 0

-- the task's record after it, k waiting before it
abbrev pub record_by : Bool → ℕ → Own → Own
record_by b k t = zeroed_by b (dropped_by b k t)
