-- `run` meets its contract.
use Prim.Native.Nat.{ℕ, ◌≤◌, ◌<◌, ◌-◌, ◌+◌, ◌*◌}
use mathlib.Core.Bool.{true, false, ◌||◌}
use mathlib.Core.List.{map}
use lib.ListN.{length, get_or}
use Rattle.model.specs.Command.{command_at}
use Rattle.state.specs.State.{shared, own}
use Rattle.arrivals.specs.Releases.{unfinished?, pending_at, coming_by}
use Rattle.arrivals.specs.declared.releases.Coming.TheVariants.{Due}
use Rattle.arrivals.proofs.Pending.{to_come}
use Rattle.machine.specs.Flat.{left_by, ready_by, FlatMachine, flat, no_job, Ends}
use mathlib.Core.Path.{◌≡◌}
use Rattle.machine.proofs.run.run.Given as goal

-- while one task runs: with busy, what the next statement needs; the mask still has the task, and no release behind its job is ready
abbrev pub invariant-loop-busy : goal.invariant-loop-busy
invariant-loop-busy l = record {
  within : l.busy ≡ true → l.tick < l.limit;
  undue : l.busy ≡ true → (task after : ℕ) → coming_by l.ready l.place l.next l.tick ≡ Due task after → ⊥;
  jobs_size : length l.jobs ≡ 8;
  onward : l.initial.tick ≤ l.tick;
  later : l.busy ≡ false → l.initial.tick < l.tick;
  ends : (u : FlatMachine)
      → Ends l.sheet l.program l.bounds l.limit
      (flat (shared l.memory) (map own l.tasks) l.jobs (left_by (l.busy || unfinished? (get_or l.jobs l.p no_job).phase) l.mask l.p) l.waiting
      (ready_by (l.busy || unfinished? (get_or l.jobs l.p no_job).phase) (get_or l.waiting l.p 0) l.p l.ready) l.place l.tick) u
      → Ends l.sheet l.program l.bounds l.limit
      (flat (shared l.initial.memory) (map own l.initial.tasks) l.initial.jobs l.mask l.waiting l.ready l.place
      l.initial.tick) u;
}

abbrev pub decreases-loop-busy : goal.decreases-loop-busy
decreases-loop-busy l = l.limit - l.tick

abbrev pub invariant-loop-tick : goal.invariant-loop-tick
invariant-loop-tick l = record {
  jobs_size : length l.jobs ≡ 8;
  waiting_size : length l.waiting ≡ 8;
  pending : l.next ≡ pending_at (command_at l.sheet l.place);
  ends : (u : FlatMachine)
      → Ends l.sheet l.program l.bounds l.limit
      (flat (shared l.memory) (map own l.tasks) l.jobs l.mask l.waiting l.ready l.place l.tick) u
      → Ends l.sheet l.program l.bounds l.limit
      (flat (shared l.initial.memory) (map own l.initial.tasks) l.initial.jobs l.initial.mask
      l.initial.waiting l.initial.ready l.initial.place l.initial.tick) u;
}

abbrev pub decreases-loop-tick : goal.decreases-loop-tick
decreases-loop-tick l = 2 * (l.limit - l.tick) + to_come l.sheet l.place l.ready
