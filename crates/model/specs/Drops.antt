-- Drops: each task's count of dropped releases is that of its arrivals which neither started a job nor wait, and the arrivals are those of
-- the run, none forgotten and none made up.
use Rattle.std.specs.Prelude.{ℕ, ◌+◌, ◌<◌, ◌≤◌, Bool, not, ◌&&◌, ◌≡◌, List, ◌++◌, map, ltb, length}
use Rattle.model.specs.Lists.{In}
use Rattle.model.specs.Command.{Release}
use Rattle.model.specs.Sheet.{sheet_of}
use Rattle.model.specs.Job.{Task}
use Rattle.model.specs.Machine.{Machine, task_at, waiting_at, unfinished, unfinished_at, run}
use Rattle.model.specs.Start.{start_machine}
use Rattle.model.specs.Rates.{one_if, only_if, in_tick}
use Rattle.model.specs.Machine.{Fate}
use Rattle.model.specs.Arrivals.{waits?, started?, started_in?, neither?, Arrival, arrivals_of, with_fate}

abbrev pub release_of : Arrival → Release
release_of a = a.release

-- the releases that have arrived, in order
abbrev pub arrived_of : ℕ → Machine → List Release
arrived_of limit m = map release_of (arrivals_of limit m)

-- how many of task p have such a fate
abbrev pub number : (Fate → Bool) → ℕ → List Arrival → ℕ
number is? p l = length (with_fate is? p l)

-- a task's jobs: finished, spent, unfinished
abbrev pub jobs_of : Task → ℕ
jobs_of t = t.counts.finished + t.counts.spent + one_if (unfinished t.job.phase)

-- a job of task p starts in tick u: none is unfinished before it, and one is in it
abbrev pub job_starts : Machine → ℕ → ℕ → Bool
job_starts m p u = not (unfinished_at (run u m) p) && unfinished_at (in_tick m u) p

-- of a run with a limit
pub record RunDrops (limit : ℕ) (m : Machine) : Type 0 where
  -- the releases dropped, as a task's T line says
  pub dropped : (p : ℕ) → (task_at (run limit m).tasks p).counts.dropped ≡ number neither? p (arrivals_of limit m)
  -- arrivals and releases to come are together all releases, in order: those of the ticks done, and those of later ticks
  pub complete : arrived_of limit m ++ (run limit m).releases ≡ m.releases
  pub arrived : (r : Release) → In r (arrived_of limit m) → r.tick < (run limit m).now
  pub to_come : (r : Release) → In r (run limit m).releases → (run limit m).now ≤ r.tick
  -- those that started are as many as the task's jobs, and in each tick done as many as the jobs that start in it
  pub started : (p : ℕ) → number started? p (arrivals_of limit m) ≡ jobs_of (task_at (run limit m).tasks p)
  pub started_in : (p u : ℕ) → number (started_in? u) p (arrivals_of limit m)
      ≡ only_if (ltb u (run limit m).now) (one_if (job_starts m p u))
  -- those that wait are those that the machine keeps
  pub waiting : (p : ℕ) → with_fate waits? p (arrivals_of limit m) ≡ waiting_at (run limit m).waiting p

-- of a sheet's run
abbrev pub Drops : List ℕ → ℕ → Type 0
Drops sheet limit = RunDrops limit (start_machine (sheet_of sheet))
