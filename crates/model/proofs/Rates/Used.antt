-- The ticks that a task has used, as the T line gives them, are its own ticks of the whole run.
use Prim.Native.Nat.{ℕ, zero, suc}
use mathlib.Core.Path.{◌≡◌, refl, sym, ◌∙◌, ap}
use native.Mathlib.Omega.{arith}
use Rattle.model.specs.Sheet.{Sheet}
use Rattle.model.specs.Job.{Counts, counting, ticks}
use Rattle.model.specs.Machine.{no_task, task_at, Running, nobody, running, move, statement}
use Rattle.model.specs.Start.{start_machine}
use Rattle.model.specs.Rates.{own_before}
use Rattle.model.proofs.Lists.{same?, replace-same, replace-other}
use Rattle.model.proofs.Fit.Sheet.{SheetFit}
use Rattle.model.proofs.Fit.Statement.{statement_fit}
use Rattle.model.proofs.Fit.Start.{start-counts}
use Rattle.model.proofs.History.Steps.{state_after, arrived_at, state-next}
use Rattle.model.proofs.Fit.Running.{Foremost, running_foremost}
use Rattle.model.proofs.History.Ticks.{arrived-at, arrived_linked}
use Rattle.model.proofs.History.Start.{started}
use Rattle.model.proofs.Demand3.Always.{holds, holds_at, value-now}
use Rattle.model.proofs.Demand3.State.{declared-task, ready}
use Rattle.model.proofs.Rates.Own.{other-task, own_runs, own-waits}
use Rattle.model.proofs.Rates.Run.{who}

module _ {s : Sheet} (c : SheetFit s) where
  -- a statement uses one tick more
  statement-ticks : (t p : ℕ) → Foremost (arrived_at (start_machine s) t) p
      → (statement p (arrived_at (start_machine s) t).memory (task_at (arrived_at (start_machine s) t).tasks p)
      (task_at (arrived_at (start_machine s) t).tasks p).job.phase).task.counts.ticks
      ≡ (task_at (arrived_at (start_machine s) t).tasks p).counts.ticks
  statement-ticks t p r =
      let k = holds_at c t (holds c t) in
      let l = arrived_linked (started c) t in
      let now = value-now c t (holds c t) in
      let f = k.fit.task p (declared-task c l k now p r) in
      (statement_fit c.blocks k.fit.memory (task_at (arrived_at (start_machine s) t).tasks p) f.registers f.copies p
      (ready c l k now p r).job).counts.ticks

  next-ticks : (t p : ℕ) → (task_at (arrived_at (start_machine s) t).tasks p).counts.ticks ≡ own_before (who c) p 0 t → (r : Running) → who c t ≡ r
      → (task_at (move (arrived_at (start_machine s) t) r).tasks p).counts.ticks ≡ own_before (who c) p 0 (suc t)
  unfolding move
  next-ticks t p k nobody e = k ∙ sym (own-waits (who c) p 0 t (rw e refl))
  next-ticks t p k (running q) e =
      let m = arrived_at (start_machine s) t in
      let u = counting ticks (statement q m.memory (task_at m.tasks q) (task_at m.tasks q).job.phase).task in
      let r = running_foremost e in
      same? p q
      (λ z. rw (z, replace-same no_task m.tasks q u r.below)
      (ap suc (statement-ticks t q r ∙ (rw z at k)) ∙ sym (own_runs (who c) q 0 t (omega arith) e)))
      (λ ne. rw (replace-other no_task m.tasks q p u ne) (k ∙ sym (own-waits (who c) p 0 t (other-task (who c t) ne e))))

  pub ticks-used : (t p : ℕ) → (task_at (state_after (start_machine s) t).tasks p).counts.ticks ≡ own_before (who c) p 0 t
  unfolding state_after own_before
  ticks-used zero p = ap (λ (c : Counts). c.ticks) (start-counts s p)
  ticks-used (suc t) p =
      rw (state-next (start_machine s) t) (next-ticks t p (((arrived-at (start_machine s) t).task p).ticks ∙ ticks-used t p) (who c t) refl)
