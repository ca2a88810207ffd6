-- RELEASES THAT WAIT: in every run of an accepted sheet at most four wait behind a job, none behind one that has ended once a tick's
-- releases have arrived, and only the task that ran last can have one to start; a waiting one has no operation.
use Prim.Native.Nat.{ℕ, suc}
use mathlib.Core.Bool.{false}
use mathlib.Core.Path.{◌≡◌, sym, ◌∙◌, ap}
use mathlib.Core.Logic.{◌≢◌}
use mathlib.Core.List.{List, []}
use Rattle.model.specs.Ceilings.{max_tasks}
use Rattle.model.specs.Sheet.{Sheet, sheet_of, verdict, accepted}
use Rattle.model.specs.Job.{Task, counting, ticks}
use Rattle.model.specs.Machine.{Machine, no_task, waiting_at, unfinished, unfinished_at, Running, nobody, running, running_of, turn_of}
use Rattle.model.specs.Machine.{move, enter, run}
use Rattle.model.specs.Start.{start_machine}
use Rattle.model.specs.History.{Operation}
use Rattle.model.specs.Rates.{in_tick, running_in, IsAt}
use Rattle.model.specs.Waiting.{Waits}
use Rattle.model.proofs.Lists.{same?, replace-other}
use Rattle.model.proofs.Fit.Machine.{Fit}
use Rattle.model.proofs.Fit.Accepted.{accepted_fit, every_fit}
use Rattle.model.proofs.Fit.Enter.{start-releases}
use Rattle.model.proofs.Fit.Waiting.{Settled, SettledFit, start_settled, arrive_settled}
use Rattle.model.proofs.History.Steps.{state_after, arrived_at, stopped, state-next}
use Rattle.model.proofs.History.Start.{started}
use Rattle.model.proofs.History.Began.{operations_began}
use Rattle.model.proofs.Rates.Own.{run_alike, in-tick}

-- all that comes before a tick's statement leaves the machine settled
pub enter_settled : {s : Sheet} {m : Machine} → Fit s m → SettledFit (enter m)
unfolding enter
enter_settled {m = m} f = arrive_settled (start-releases max_tasks m) (start_settled m f.tasks f.waiting.size)

-- then only the task that runs can come to have one to start
pub move-last : (m : Machine) → Settled m → (r : Running) (p : ℕ) → unfinished_at (move m r) p ≡ false → waiting_at (move m r).waiting p ≢ []
    → r ≡ running p
unfolding move
move-last m f nobody p i w = absurd (w (f p i))
move-last m f (running q) p i w = same? q p (λ e. ap running e) (λ d. absurd (w (f p (sym (other (λ e. d (sym e))) ∙ i))))
  where
    other : p ≢ q → unfinished_at (move m (running q)) p ≡ unfinished_at m p
    other d = ap (λ (t : Task). unfinished t.job.phase) (replace-other no_task m.tasks q p (counting ticks (turn_of m q).task) d)

module _ (sheet : List ℕ) (e : verdict sheet ≡ accepted) where
  abbrev m : Machine
  m = start_machine (sheet_of sheet)

  settled_at : (t : ℕ) → Settled (arrived_at m t)
  unfolding arrived_at
  settled_at t = (enter_settled (every_fit sheet e t)).settled

  last_ran : (t p : ℕ) → unfinished_at (state_after m (suc t)) p ≡ false → waiting_at (state_after m (suc t)).waiting p ≢ []
      → running_of (arrived_at m t) ≡ running p
  last_ran t p i w =
      move-last (arrived_at m t) (settled_at t) (running_of (arrived_at m t)) p (rw (state-next m t) at i) (rw (state-next m t) at w)

  -- of the run itself, which has the same tasks and the same waiting ones
  run-idle : (u p : ℕ) → unfinished_at (in_tick m u) p ≡ false → waiting_at (in_tick m u).waiting p ≡ []
  run-idle u p i = let k = in-tick m u in rw k.waiting (settled_at u p (rw k.tasks at i))

  run-last : (u p : ℕ) → unfinished_at (run (suc u) m) p ≡ false → waiting_at (run (suc u) m).waiting p ≢ [] → running_in m u ≡ running p
  run-last u p i w =
      let k = run_alike m (suc u) in
      (in-tick m u).runs ∙ last_ran u p (rw k.tasks at i) (rw k.waiting at w)

  run-began : (limit a : ℕ) (o : Operation) → IsAt limit m a o → running_in m a ≡ running o.task
  run-began limit a o is =
      let r = stopped limit m in
      (in-tick m a).runs ∙ operations_began (started (accepted_fit sheet e)) r.ticks a o (rw r.history at is)

pub waits : (sheet : List ℕ) (limit : ℕ) → verdict sheet ≡ accepted → Waits sheet limit
waits sheet limit e = record {
  most = λ u p h. let k = run_alike (m sheet e) u in rw k.waiting ((every_fit sheet e u).waiting.most p);
  idle = λ u p h. run-idle sheet e u p;
  last = λ u p h. run-last sheet e u p;
  began = run-began sheet e limit;
}
