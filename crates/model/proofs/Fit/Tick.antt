-- Ticks and runs keep a machine well formed.
use Prim.Native.Nat.{ℕ, zero, suc, ◌+◌, ◌<◌, ◌≤◌}
use mathlib.Core.Path.{◌≡◌, refl, sym, ◌∙◌, ap, subst}
use mathlib.Core.Bool.{true, false≢true}
use mathlib.Core.List.{List}
use native.Mathlib.Omega.{arith}
use lib.ListN.{length}
use Rattle.model.specs.Command.{BodyCommand}
use Rattle.model.specs.Sheet.{Sheet}
use Rattle.model.specs.Job.{Task, Turn, counting, ticks}
use Rattle.model.specs.Machine.{no_task, task_at, Machine, unfinished, Running}
use Rattle.model.specs.Machine.{nobody, running, running_of, turn_of, move, move_any, tick, run, enter}
use Rattle.model.proofs.Fit.Sheet.{SheetFit, ReleasesFit}
use Rattle.model.proofs.Fit.Machine.{TaskFit, DeclaredFit, Fit}
use Rattle.model.proofs.Fit.Outside.{TurnFit}
use Rattle.model.proofs.Fit.Releases.{TasksFit, changed_fit, tasks-of, enter_fit, enter-later, later_fit}
use Rattle.model.proofs.History.Steps.{state_after, stopped}
use Rattle.model.proofs.Fit.Elements.{below?, replace-all}
use Rattle.model.proofs.Fit.Statement.{statement_fit}
use Rattle.model.proofs.Fit.Running.{RunningFit, running_fit, busy}

-- a task that did nothing in a tick, and one that did a statement
pub waited_fit : {words blocks now : ℕ} {text : List BodyCommand} {t : Task} → TaskFit words blocks text now t → TaskFit words blocks text (suc now) t
waited_fit f =
    record { body = f.body; registers = f.registers; copies = f.copies; counts = f.counts; ticks = omega (arith, f.ticks); phase = f.phase }

pub turned_fit : {words blocks now : ℕ} {text : List BodyCommand} {t : Task} {u : Turn} → TaskFit words blocks text now t → TurnFit words blocks t u
    → TaskFit words blocks text (suc now) (counting ticks u.task)
turned_fit f g =
    record {
      body = g.body ∙ f.body;
      registers = g.registers;
      copies = g.copies;
      counts = omega (arith, g.counts.most, g.counts.ticks, f.counts);
      ticks = omega (arith, g.counts.ticks, f.ticks);
      phase = g.phase;
    }

pub move-now : (m : Machine) (r : Running) → (move m r).now ≡ suc m.now
unfolding move
move-now m nobody = refl
move-now m (running p) = refl

-- ONE TICK
module _ {s : Sheet} (c : SheetFit s) where
  waited : {now : ℕ} {ts : List Task} → TasksFit s now ts → (p : ℕ) → p < length s.bodies → DeclaredFit s (suc now) p (task_at ts p)
  waited f p h = waited_fit (f.task p h)

  -- a task with an unfinished job is one that the sheet declares
  pub declared : {now : ℕ} {ts : List Task} → TasksFit s now ts → (p : ℕ) → busy ts p ≡ true → p < length s.bodies
  declared {ts = ts} f p h =
      below? p (length s.bodies) (λ l. l)
      (λ l. absurd (false≢true (ap (λ (t : Task). unfinished t.job.phase) (sym (f.undeclared p l)) ∙ h)))

  -- the statement of the task that runs
  pub turn_fit : {m : Machine} → Fit s m → (p : ℕ) → busy m.tasks p ≡ true
      → TurnFit (length s.words) (length s.blocks) (task_at m.tasks p) (turn_of m p)
  turn_fit {m} f p u =
      let g = f.task p (declared (tasks-of f) p u) in
      statement_fit c.blocks f.memory (task_at m.tasks p) g.registers g.copies p g.phase

  move_fit : {m : Machine} → Fit s m → ReleasesFit (length s.bodies) (suc m.now) m.releases → (r : Running) → RunningFit m r → Fit s (move m r)
  unfolding move
  move_fit f later nobody r = record {
    memory = f.memory;
    tasks = f.tasks;
    task = waited (tasks-of f);
    undeclared = f.undeclared;
    waiting = f.waiting;
    releases = later;
    dropped = f.dropped;
  }
  move_fit {m} f later (running p) r =
      let h = declared (tasks-of f) p r.unfinished in
      let u = turn_fit f p r.unfinished in
      let ts = changed_fit c (tasks-of f) (waited (tasks-of f)) p h (turned_fit (f.task p h) u) in
      record {
        memory = u.memory;
        tasks = ts.size;
        task = ts.task;
        undeclared = ts.undeclared;
        waiting = f.waiting;
        releases = later;
        dropped = replace-all no_task (λ (t : Task). t.counts.dropped + length m.releases ≤ 256) m.tasks p _
            (rw u.counts.dropped (f.dropped p)) f.dropped;
      }

  pub tick_fit : {m : Machine} → Fit s m → Fit s (tick m)
  unfolding tick move_any
  tick_fit {m} f =
      let g = enter_fit c f in
      let n : Machine = enter m in
      move_fit g (later_fit n (enter-later m) g.releases) (running_of n) (running_fit n)

-- MANY TICKS
pub after-ticks_fit : {s : Sheet} → SheetFit s → (n : ℕ) {m : Machine} → Fit s m → Fit s (state_after m n)
unfolding state_after
after-ticks_fit c zero f = f
after-ticks_fit c (suc n) f = tick_fit c (after-ticks_fit c n f)

pub run_fit : {s : Sheet} → SheetFit s → (limit : ℕ) {m : Machine} → Fit s m → Fit s (run limit m)
run_fit {s} c limit {m} f = let r = stopped limit m in subst (λ (z : Machine). Fit s z) (sym r.state) (after-ticks_fit c r.ticks f)
