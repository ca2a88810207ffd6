-- After every tick of a run: each task's count of lost attempts, and that of its operations, is the number of ticks in which a transaction of
-- the task has restarted; and each operation lost its attempts in those ticks.
use Prim.Native.Nat.{ℕ, zero, suc, ◌+◌}
use mathlib.Core.Path.{◌≡◌, refl, sym, ◌∙◌, ap}
use mathlib.Core.Bool.{Bool, false, ◌&&◌}
use mathlib.Core.Logic.{◌≢◌}
use mathlib.Core.Option.{none, some}
use native.Mathlib.Omega.{arith}
use lib.Dec.{eqb}
use lib.ListN.{length}
use borrow.Author.Tests.{eq-eqb, ne_eqb}
use Rattle.model.specs.Lists.{at}
use Rattle.model.specs.Sheet.{Sheet}
use Rattle.model.specs.Job.{Phase, idle, plain, reading, exchanging, transacting, Counts, counting, ticks, Task}
use Rattle.model.specs.Transaction.{nothing?}
use Rattle.model.specs.Machine.{Machine, no_task, task_at, turn_of, Running, nobody, running, running_of, move}
use Rattle.model.specs.Start.{start_machine}
use Rattle.model.specs.History.{History, Operation, operation_at, nothing, event_of, noted, observed}
use Rattle.model.specs.Rates.{one_if, sum_before}
use Rattle.model.specs.LostAttempts.{lost_of, touched_some, touched_none, phase_at}
use Rattle.model.proofs.Lists.{same?, replace-same, replace-other, impossible}
use Rattle.model.proofs.Sums.{sum_next}
use Rattle.model.proofs.Fit.Sheet.{SheetFit}
use Rattle.model.proofs.Fit.Start.{start-counts}
use Rattle.model.proofs.Fit.Running.{Foremost, running_foremost}
use Rattle.model.proofs.History.Steps.{state_after, arrived_at, history_after, state-next, history-next}
use Rattle.model.proofs.History.Moves.{given}
use Rattle.model.proofs.History.Statement.{moves}
use Rattle.model.proofs.History.Noted.{latest_of}
use Rattle.model.proofs.History.Linked.{given_to}
use Rattle.model.proofs.History.Notes.{lost?, Notes, notes_nothing, notes}
use Rattle.model.proofs.History.Ticks.{arrived-at, arrived-now, arrived_linked}
use Rattle.model.proofs.History.Start.{started}
use Rattle.model.proofs.Demand3.Always.{holds, holds_at, value-now}
use Rattle.model.proofs.Demand3.State.{ready}
use Rattle.model.proofs.Rates.Run.{rated}
use Rattle.model.proofs.LostAttempts.Statement.{not_and, cause_in, Loses, statement_loses}
use Rattle.model.proofs.LostAttempts.Noted.{only_none, lost-next}
use Rattle.model.proofs.LostAttempts.Ticks.{InTicks, ticks-noted}

-- a task that stays where it is restarts nothing
stays_there : (f : Phase) → (touched_some f && touched_none f) ≡ false
stays_there idle = refl
stays_there plain = refl
stays_there (reading r w s) = refl
stays_there (exchanging r x) = refl
stays_there (transacting x s) = not_and (nothing? x.blocks)

module _ {s : Sheet} (c : SheetFit s) where
  abbrev m : Machine
  m = start_machine s

  -- in tick u the transaction of task p restarts
  abbrev pub restarts_at : ℕ → ℕ → Bool
  restarts_at p u = touched_some (phase_at (arrived_at m u) p) && touched_none (phase_at (state_after m (suc u)) p)

  -- THE STATEMENT of tick u
  pub loses_at : (u p : ℕ) → Foremost (arrived_at m u) p
      → Loses (cause_in p (arrived_at m u).memory (phase_at (arrived_at m u) p)) (touched_some (phase_at (arrived_at m u) p))
      (task_at (arrived_at m u).tasks p) (turn_of (arrived_at m u) p)
  loses_at u p r =
      let job = (ready c (arrived_linked (started c) u) (holds_at c u (holds c u)) (value-now c u (holds c u)) p r).job in
      statement_loses (length s.words) (length s.blocks) c.blocks p (arrived_at m u).memory (task_at (arrived_at m u).tasks p)
      (phase_at (arrived_at m u) p) refl job

  -- restarts by the phase after the tick
  restarts-by : (u q : ℕ) (f : Phase) → phase_at (move (arrived_at m u) (running_of (arrived_at m u))) q ≡ f
      → restarts_at q u ≡ (touched_some (phase_at (arrived_at m u) q) && touched_none f)
  restarts-by u q f e =
      ap (λ (z : Phase). touched_some (phase_at (arrived_at m u) q) && touched_none z) (ap (λ (n : Machine). phase_at n q) (state-next m u) ∙ e)

  -- who does not run stays where it is
  pub idle-restarts : (u : ℕ) → running_of (arrived_at m u) ≡ nobody → (q : ℕ) → restarts_at q u ≡ false
  unfolding move
  idle-restarts u e q = restarts-by u q (phase_at (arrived_at m u) q) (rw e refl) ∙ stays_there (phase_at (arrived_at m u) q)

  module _ (u p : ℕ) (e : running_of (arrived_at m u) ≡ running p) where
    abbrev next : Task
    next = counting ticks (turn_of (arrived_at m u) p).task

    pub others_restart : (q : ℕ) → q ≢ p → restarts_at q u ≡ false
    unfolding move
    others_restart q ne =
        restarts-by u q (phase_at (arrived_at m u) q) (rw e (ap (λ (t : Task). t.job.phase) (replace-other no_task (arrived_at m u).tasks p q next ne)))
        ∙ stays_there (phase_at (arrived_at m u) q)

    pub own-restarts : restarts_at p u ≡ lost? (turn_of (arrived_at m u) p).did
    unfolding move
    own-restarts =
        let r = running_foremost e in
        restarts-by u p next.job.phase (rw e (ap (λ (t : Task). t.job.phase) (replace-same no_task (arrived_at m u).tasks p next r.below)))
        ∙ (loses_at u p r).restarts

  -- AFTER t TICKS
  abbrev pub restarts_before : ℕ → ℕ → ℕ
  restarts_before p t = sum_before (λ u. one_if (restarts_at p u)) 0 t

  pub record Accounted (t : ℕ) : Type 0 where
    pub counted : (p : ℕ) → (task_at (state_after m t).tasks p).counts.lost ≡ restarts_before p t
    pub history : (p : ℕ) → lost_of p (history_after m t).began ≡ restarts_before p t
    pub ticks : InTicks restarts_at t (history_after m t)

  module _ (t : ℕ) (k : Accounted t) where
    abbrev now : Machine
    now = arrived_at m t

    abbrev h : History
    h = history_after m t

    size : length h.began ≡ t
    size = (arrived_linked (started c) t).linked.size ∙ arrived-now (started c) t

    one_more : (q : ℕ) → restarts_before q (suc t) ≡ restarts_before q t + one_if (restarts_at q t)
    one_more q = sum_next (λ u. one_if (restarts_at q u)) 0 t (omega arith)

    -- THE COUNT
    counted-by : (r : Running) → running_of now ≡ r → (q : ℕ)
        → (task_at (move now r).tasks q).counts.lost ≡ (task_at now.tasks q).counts.lost + one_if (restarts_at q t)
    unfolding move
    counted-by nobody e q = rw (idle-restarts t e q) (omega arith)
    counted-by (running p) e q =
        let r = running_foremost e in
        same? q p
        (λ z. rw (z, own-restarts t p e, replace-same no_task now.tasks p (next t p e) r.below) (loses_at t p r).counted)
        (λ ne. rw (others_restart t p e q ne, replace-other no_task now.tasks p q (next t p e) ne) (omega arith))

    counted_next : (q : ℕ) → (task_at (state_after m (suc t)).tasks q).counts.lost ≡ restarts_before q (suc t)
    counted_next q =
        let before = ((arrived-at m t).task q).lost ∙ k.counted q in
        rw (state-next m t) (omega (arith, counted-by (running_of now) refl q, before, one_more q))

    -- THE HISTORY, the statement being noted in tick t
    seen : (p : ℕ) → observed now (running p) h ≡ noted t p (event_of t (turn_of now p).did) h
    unfolding observed
    seen p = ap (λ (u : ℕ). noted u p (event_of u (turn_of now p).did) h) (arrived-now (started c) t)

    seen_idle : observed now nobody h ≡ noted t 0 nothing h
    unfolding observed
    seen_idle = ap (λ (u : ℕ). noted u 0 nothing h) (arrived-now (started c) t)

    abbrev NotesOf : ℕ → Type 0
    NotesOf p =
        Notes t p h (given_to now.tasks p) (event_of t (turn_of now p).did) (lost? (turn_of now p).did) (given (turn_of now p).task.job.phase)

    noted-at : (p : ℕ) → NotesOf p
    noted-at p =
        notes t p h (moves p now.memory (task_at now.tasks p) (phase_at now p) refl) ((arrived_linked (started c) t).linked.opened p)

    history-by : (r : Running) → running_of now ≡ r → (q : ℕ) → lost_of q (observed now r h).began ≡ lost_of q h.began + one_if (restarts_at q t)
    history-by nobody e q =
        rw (seen_idle, idle-restarts t e q)
        (lost-next t 0 h q (notes_nothing {g = none}) ∙ ap (λ (n : ℕ). lost_of q h.began + n) (only_none (eqb 0 q)))
    history-by (running p) e q =
        rw (seen p)
        (lost-next t p h q (noted-at p)
        ∙ ap (λ (n : ℕ). lost_of q h.began + n)
        (same? q p
        (λ z. rw (z, eq-eqb p p refl, own-restarts t p e) refl)
        (λ ne. rw (ne_eqb p q (λ z. ne (sym z)), others_restart t p e q ne) refl)))

    history-now : (q : ℕ) → lost_of q (history_after m (suc t)).began ≡ restarts_before q (suc t)
    history-now q = rw (history-next m t) (omega (arith, history-by (running_of now) refl q, k.history q, one_more q))

    latest : (a : ℕ) (o : Operation) → operation_at h a ≡ some o → o.last ≡ none → latest_of h o.task ≡ a
    latest a o is n = ((rated c t).unended.stands a o is n).latest

    ticks-by : (r : Running) → running_of now ≡ r → InTicks restarts_at (suc t) (observed now r h)
    ticks-by nobody e =
        rw seen_idle
        (ticks-noted restarts_at t 0 h size k.ticks (λ q ne. idle-restarts t e q) latest (notes_nothing {g = none}) (idle-restarts t e 0))
    ticks-by (running p) e =
        rw (seen p) (ticks-noted restarts_at t p h size k.ticks (others_restart t p e) latest (noted-at p) (own-restarts t p e))

    accounted_next : Accounted (suc t)
    accounted_next =
        record { counted = counted_next; history = history-now; ticks = rw (history-next m t) (ticks-by (running_of now) refl) }

  pub accounted : (t : ℕ) → Accounted t
  unfolding state_after history_after lost_of at sum_before
  accounted zero = record {
    counted = λ p. ap (λ (c : Counts). c.lost) (start-counts s p);
    history = λ p. refl;
    ticks = record { each = λ a o is. impossible (cc) };
  }
  accounted (suc t) = accounted_next t (accounted t)
