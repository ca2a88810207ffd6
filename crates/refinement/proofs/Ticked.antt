-- A tick in which no release is due: the highest task with an unfinished job does one statement, or nobody does.
use Prim.Native.Nat.{ℕ, zero, suc, ◌+◌, ◌^◌, ◌<◌}
use mathlib.Core.Path.{◌≡◌, refl, sym, ap, ◌∙◌, subst}
use mathlib.Core.Bool.{Bool, true, false, true≢false}
use mathlib.Core.Logic.{◌≢◌}
use mathlib.Core.List.{List, [], ◌∷◌}
use native.Mathlib.Omega.{arith}
use borrow.Author.Tests.{eq-eqb, ne_eqb}
use lib.ListN.{length}
use Rattle.std.specs.Prelude.{Some, None}
use Rattle.model.specs.Lists.{at, replace}
use Rattle.model.specs.Command as C
use Rattle.model.specs.Sheet.{Sheet, sheet_of}
use Rattle.model.specs.Job as J
use Rattle.model.specs.Machine as M
use Rattle.model.proofs.Lists.{same?, replace-other}
use Rattle.model.proofs.Fit.Elements.{below?}
use Rattle.model.proofs.Fit.Waiting.{SettledAt, Settled}
use Rattle.model.proofs.Fit.Sheet.{SheetFit}
use Rattle.model.proofs.Fit.Machine.{DeclaredFit, Fit}
use Rattle.model.proofs.Fit.Statement.{statement_fit}
use Rattle.model.proofs.Fit.Ranges.{TaskRange, Ranges}
use Rattle.commands.specs.declared.BodyCommand.{BodyCommand}
use Rattle.state.specs.State.{Own}
use Rattle.state.specs.Held.{memory_of}
use Rattle.exchanges.specs.Places.{Noted, Left}
use Rattle.jobs.specs.Jobs.{counted}
use Rattle.statements.specs.Statements.{statement}
use Rattle.arrivals.specs.Releases.{unfinished?}
use Rattle.machine.specs.Flat.{top_of, left_by, ready_by, FlatMachine, job_of, own_of, closed, ticked_with, ticked_for, passed, ticked}
use Rattle.jobs.specs.declared.Job.{Job}
use Rattle.program.specs.Program.{body_in, Programmed}
use Rattle.refinement.proofs.View.{task_of}
use Rattle.refinement.proofs.Shape.{Leaves, leaves, Refines}
use Rattle.refinement.proofs.Sized.{counted-sized}
use Rattle.refinement.proofs.Counted.{shape_counted, counted-task}
use Rattle.refinement.proofs.Statements.{statement-tick}
use Rattle.refinement.proofs.Releases.{releases_from}
use Rattle.refinement.proofs.Unfinished.{busy, bit_of, mask-set, TopTask, Top, none, some, top}
use Rattle.refinement.proofs.Machine.{task_in, tasks_of, machine_of, ReadySound, none_ready, one_ready, Sound, waiting-count, task-at, task_busy, job-set}
use Rattle.refinement.proofs.Machine.{tasks_changed, sound_changed, nobody-runs, top_runs}

-- the mask without a task that has finished
left-mask : (b : Bool) (m k p : ℕ) → k + 2 ^ p ≡ m + bit_of b (2 ^ p) → left_by b m p ≡ k
left-mask true m k p h = omega arith
left-mask false m k p h = omega arith

module _ (sheet : List ℕ) (program : List BodyCommand) (bounds : List ℕ) (held : Programmed sheet program bounds)
    (c : SheetFit (sheet_of sheet)) (ws : List (List C.Release)) (w : FlatMachine) (g : Sound sheet program bounds ws w)
    (none-ready : w.ready ≡ None) (settled : Settled (machine_of sheet program bounds ws w)) where
  abbrev s : Sheet
  s = sheet_of sheet

  abbrev n : ℕ
  n = length s.bodies

  abbrev m : M.Machine
  m = machine_of sheet program bounds ws w

  pub record TickedFits (v : FlatMachine) : Type 0 where
    pub same : machine_of sheet program bounds ws v ≡ M.move_any (machine_of sheet program bounds ws w)
    pub sound : Sound sheet program bounds ws v

  -- A TICK THAT PASSES
  nobody-ticks : ((q : ℕ) → q < 8 → busy w.jobs q ≡ false) → TickedFits (passed w)
  unfolding M.move_any M.move
  nobody-ticks f =
      let more : w.ticks + 1 ≡ suc w.ticks = omega arith in
      let running : M.running_of m ≡ M.nobody = nobody-runs sheet program bounds c.bodies m w.tasks w.jobs refl g.each.idle f in
      record {
        same = rw (running, more);
        sound = record { memory = g.memory; each = g.each; mask = g.mask; waiting = g.waiting; ready = none_ready none-ready settled };
      }

  -- A STATEMENT, of the highest task with an unfinished job
  module _ (fit : Fit s m) (range : Ranges m) (few : w.ticks < 4294967295) (p : ℕ) (h : TopTask 8 w.jobs p) where
    declared : p < n
    declared = below? p n (λ l. l) (λ l. absurd (true≢false (sym h.unfinished ∙ g.each.idle p l)))

    abbrev j : Job
    j = job_of w p

    abbrev x : Own
    x = own_of w p

    abbrev end : ℕ
    end = at 0 bounds (suc p)

    abbrev t : J.Task
    t = task_in sheet program bounds w.tasks w.jobs p

    t_at : M.task_at m.tasks p ≡ t
    t_at = task-at sheet program bounds c.bodies w.tasks w.jobs p declared

    task_fit : DeclaredFit s w.ticks p t
    task_fit = subst (DeclaredFit s w.ticks p) t_at (fit.task p declared)

    task-range : TaskRange t
    task-range = subst TaskRange t_at (range.task p)

    small : (i : ℕ) → i < 4 → at 0 x.counts i < 4294967295
    small zero l = omega (arith, task_fit.counts, task_fit.ticks)
    small (suc zero) l = omega (arith, task_fit.counts, task_fit.ticks)
    small (suc (suc zero)) l = omega (arith, task_fit.counts, task_fit.ticks)
    small (suc (suc (suc zero))) l = omega (arith, task_fit.ticks)
    small (suc (suc (suc (suc i)))) l = absurd (omega arith)

    abbrev body : List C.BodyCommand
    body = body_in program bounds p

    abbrev u : Left Job
    u = statement program w.memory x p j

    abbrev o : Noted Job
    o = closed end u.task u.next

    refined : Refines program end body u.memory o (M.statement p (memory_of w.memory) t t.job.phase)
    refined =
        statement-tick program held.size end (held.within p declared) body w.memory x p j g.memory (g.each.sized p h.below) h.below
        small (length s.words) (length s.blocks) c.words c.blocks task_fit.phase task-range.phase task-range.copy
        (g.each.shape p declared)

    counted-ticks : task_of program end body o.next (counted o.task 3) ≡ J.counting J.ticks (task_of program end body o.next o.task)
    counted-ticks =
        let turned = statement_fit c.blocks fit.memory t task_fit.registers task_fit.copies p task_fit.phase in
        let ticks = ap (λ (z : Leaves). z.task.counts.ticks) refined.same in
        let few : at 0 o.task.counts 3 < 4294967295 = omega (arith, turned.counts.ticks, ticks, small 3 (omega arith)) in
        counted-task J.ticks program end body o.next o.task refined.own_sized.counts few

    abbrev after_leaves : Leaves → M.Machine
    after_leaves z = M.after_turn m p (J.turn z.memory z.task J.nothing_done)

    moved : M.move_any m ≡ after_leaves (leaves (memory_of u.memory) (task_of program end body o.next o.task))
    unfolding M.move_any M.move
    moved =
        let running : M.running_of m ≡ M.running p = top_runs sheet program bounds c.bodies m w.tasks w.jobs refl g.each.idle p h in
        ap (M.move m) running ∙ ap (λ (z : J.Task). M.after_turn m p (M.statement p m.memory z z.job.phase)) t_at
        ∙ ap after_leaves refined.same

    -- THE TASK THAT RAN may have one to start, nobody else
    abbrev v : FlatMachine
    v = ticked_with w p u.memory o

    tasks_are : tasks_of sheet program bounds v.tasks v.jobs ≡ replace m.tasks p (J.counting J.ticks (task_of program end body o.next o.task))
    tasks_are =
        tasks_changed sheet program bounds c.bodies w.tasks w.jobs g.each p (counted o.task 3) o.next declared
        ∙ ap (replace m.tasks p) counted-ticks

    others_settled : (q : ℕ) → q ≢ p → SettledAt (machine_of sheet program bounds ws v) q
    others_settled q d i =
        settled q (sym (ap (λ (z : J.Task). M.unfinished z.job.phase) (replace-other M.no_task m.tasks p q _ d))
        ∙ ap (λ (ts : List J.Task). M.unfinished (M.task_at ts q).job.phase) (sym tasks_are) ∙ i)

    busy_here : busy v.jobs p ≡ unfinished? o.next.phase
    busy_here =
        ap (λ (z : Job). unfinished? z.phase)
        (job-set sheet program bounds c.bodies w.tasks w.jobs g.each p (counted o.task 3) o.next declared)

    all_settled : SettledAt (machine_of sheet program bounds ws v) p → Settled (machine_of sheet program bounds ws v)
    all_settled f q = same? q p (λ e. rw e f) (λ d. others_settled q d)

    ready-after : ReadySound sheet program bounds ws v
    ready-after = go (unfinished? o.next.phase) refl (M.waiting_at ws p) refl
      where
        ready-is : (b : Bool) (l : List C.Release) → unfinished? o.next.phase ≡ b → M.waiting_at ws p ≡ l
            → v.ready ≡ ready_by b (length l) p w.ready
        ready-is b l e k = rw (e, waiting-count sheet program bounds ws w g p, k)

        here : M.unfinished_at (machine_of sheet program bounds ws v) p ≡ unfinished? o.next.phase
        here = task_busy sheet program bounds c.bodies v.tasks v.jobs p declared ∙ busy_here

        go : (b : Bool) → unfinished? o.next.phase ≡ b → (l : List C.Release) → M.waiting_at ws p ≡ l → ReadySound sheet program bounds ws v
        go true e l k = none_ready (ready-is true l e k ∙ none-ready) (all_settled (λ i. absurd (true≢false (sym e ∙ sym here ∙ i))))
        go false e [] k = none_ready (ready-is false [] e k ∙ none-ready) (all_settled (λ i. k))
        go false e (r ∷ l) k =
            let z : v.ready ≡ Some p = ready-is false (r ∷ l) e k ∙ rw (ne_eqb (suc (length l)) 0 (λ e. omega arith)) in
            one_ready p r l z declared (busy_here ∙ e) k others_settled

    statement_fits : TickedFits v
    statement_fits =
        let more : w.ticks + 1 ≡ suc w.ticks = omega arith in
        let mask = mask-set w.jobs p o.next (omega (arith, g.each.jobs, h.below)) 8 h.below in
        record {
          same =
              ap
              (λ (k : ℕ). M.machine (memory_of u.memory) (tasks_of sheet program bounds v.tasks v.jobs) ws (releases_from sheet w.place) k)
              more
              ∙ ap (λ (ts : List J.Task). M.machine (memory_of u.memory) ts ws (releases_from sheet w.place) (suc w.ticks)) tasks_are
              ∙ sym moved;
          sound = record {
            memory = refined.shared_sized;
            each =
                sound_changed sheet program bounds c.bodies w.tasks w.jobs g.each p (counted o.task 3) o.next declared
                (counted-sized refined.own_sized 3) (shape_counted o.task 3 end o.next o.next.phase refined.shape);
            mask = rw g.mask (left-mask (unfinished? o.next.phase) _ _ p (rw h.unfinished at mask));
            waiting = g.waiting;
            ready = ready-after;
          };
        }

    statement-ticks : TickedFits (ticked_for program bounds w p)
    statement-ticks = let z : p + 1 ≡ suc p = omega arith in rw z statement_fits

  -- ANY TICK
  pub ticked_fits : Fit s m → Ranges m → w.ticks < 4294967295 → TickedFits (ticked program bounds w)
  unfolding ticked
  ticked_fits fit range few = go (subst (Top 8 w.jobs) (sym g.mask) (top w.jobs 8))
    where
      go : Top 8 w.jobs w.mask → TickedFits (ticked program bounds w)
      go (none z f) = rw (eq-eqb w.mask 0 z) (nobody-ticks f)
      go (some l h) = rw (ne_eqb w.mask 0 (λ z. omega arith)) (statement-ticks fit range few (top_of 8 w.mask) h)
