-- DROPS: in every run of an accepted sheet each task's count of dropped releases is that of its arrivals which neither started a job nor
-- wait; the arrivals are all releases of the ticks done, those that started are the jobs, and those that wait are those that the machine keeps.
use Prim.Native.Nat.{ℕ, suc, ◌≤◌, ◌<◌}
use mathlib.Core.Path.{◌≡◌, refl}
use mathlib.Core.Logic.{inl, inr}
use mathlib.Core.List.{List, [], ◌∷◌}
use native.Mathlib.Omega.{arith}
use lib.ListN.{length}
use Rattle.model.specs.Lists.{at, In}
use Rattle.model.specs.Command.{Release}
use Rattle.model.specs.Sheet.{Sheet, verdict, accepted}
use Rattle.model.specs.Machine.{Machine, run}
use Rattle.model.specs.Start.{start_machine}
use Rattle.model.specs.Arrivals.{seen_enter, arrivals_of}
use Rattle.model.specs.Drops.{job_starts, RunDrops, Drops}
use Rattle.model.proofs.Fit.Sheet.{SheetFit, release_at}
use Rattle.model.proofs.Fit.Accepted.{accepted_fit}
use Rattle.model.proofs.History.Steps.{state_after, arrived_at, seen_after, Stops, stops}
use Rattle.model.proofs.History.Ticks.{now-is}
use Rattle.model.proofs.History.Start.{started}
use Rattle.model.proofs.Rates.Own.{run_alike, in-tick}
use Rattle.model.proofs.Drops.Accounted.{seen_accounted}
use Rattle.model.proofs.Drops.Starts.{starts_between, seen-starts}

-- those to come are of later ticks
all-later : (now : ℕ) (l : List Release) → ((i : ℕ) → i < length l → now ≤ (release_at l i).tick) → (r : Release) → In r l → now ≤ r.tick
unfolding at
all-later now [] f r x'' = elim x'' [ ]
all-later now (x ∷ l) f r (inl e) = rw e (f 0 (omega arith))
all-later now (x ∷ l) f r (inr i) = all-later now l (λ i h. f (suc i) (omega arith)) r i

module _ {s : Sheet} (c : SheetFit s) (limit : ℕ) where
  abbrev m : Machine
  m = start_machine s

  -- the run itself has the same jobs before and in each tick
  same_starts : (p u : ℕ) → starts_between (state_after m u) (arrived_at m u) p ≡ job_starts m p u
  same_starts p u = rw ((run_alike m u).tasks, (in-tick m u).tasks) refl

  -- the run with its limit, and the arrivals that are read off it, stand after so many ticks
  abbrev run-stops : Stops seen_enter [] m limit 0
  run-stops = stops seen_enter [] m limit 0

  state : run limit m ≡ state_after m run-stops.ticks
  unfolding state_after
  state = run-stops.state

  seen : arrivals_of limit m ≡ seen_after seen_enter [] m run-stops.ticks
  unfolding arrivals_of state_after seen_after
  seen = run-stops.seen

  run-drops : RunDrops limit m
  unfolding start_machine
  run-drops =
      let a = seen_accounted c run-stops.ticks in
      record {
        dropped = λ p. rw (state, seen) (a.dropped p);
        complete = rw (state, seen) a.complete;
        arrived = rw (state, seen) a.arrived;
        to_come = rw state (all-later _ _ a.fit.releases.later);
        started = λ p. rw (state, seen) (a.started p);
        started_in = λ p u. rw (state, seen, now-is (started c) run-stops.ticks, ← same_starts p u) (seen-starts c run-stops.ticks p u);
        waiting = λ p. rw (state, seen) (a.waiting p);
      }

pub drops : (sheet : List ℕ) (limit : ℕ) → verdict sheet ≡ accepted → Drops sheet limit
drops sheet limit e = run-drops (accepted_fit sheet e) limit
