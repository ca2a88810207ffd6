-- Releases that wait: what holds of them in every tick of a run.
use Rattle.std.specs.Prelude.{ℕ, suc, ◌<◌, ◌≤◌, false, ◌≡◌, ◌≢◌, List, [], length}
use Rattle.model.specs.Ceilings.{max_waiting}
use Rattle.model.specs.Sheet.{sheet_of}
use Rattle.model.specs.Machine.{Machine, waiting_at, unfinished_at, running, run}
use Rattle.model.specs.Start.{start_machine}
use Rattle.model.specs.History.{Operation}
use Rattle.model.specs.Rates.{in_tick, running_in, IsAt}

pub record RunWaits (limit : ℕ) (m : Machine) : Type 0 where
  -- after any number of ticks at most four wait behind a job
  pub most : (u p : ℕ) → u ≤ limit → length (waiting_at (run u m).waiting p) ≤ max_waiting
  -- once a tick's releases have arrived, none waits behind a job that has ended
  pub idle : (u p : ℕ) → u < limit → unfinished_at (in_tick m u) p ≡ false → waiting_at (in_tick m u).waiting p ≡ []
  -- between two ticks, only the task that ran last can have one to start
  pub last : (u p : ℕ) → u < limit → unfinished_at (run (suc u) m) p ≡ false → waiting_at (run (suc u) m).waiting p ≢ []
      → running_in m u ≡ running p
  -- every operation begins in a statement of its task, so in a job that has started: those that wait have none, and no place in the order
  pub began : (a : ℕ) (o : Operation) → IsAt limit m a o → running_in m a ≡ running o.task

-- of a sheet's run
abbrev pub Waits : List ℕ → ℕ → Type 0
Waits sheet limit = RunWaits limit (start_machine (sheet_of sheet))
