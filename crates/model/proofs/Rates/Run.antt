-- Every tick of a run keeps its tasks in time, and every operation that has ended took the ticks of its own that it may.
use Prim.Native.Nat.{ℕ, zero, suc, ◌<◌}
use mathlib.Core.Path.{◌≡◌, refl, sym, ◌∙◌, ap, subst, fun_ext}
use mathlib.Core.Logic.{◌≢◌, ◌⊎◌, inl, inr}
use mathlib.Core.List.{List}
use mathlib.Core.Option.{Option, none, some}
use native.Mathlib.Omega.{arith}
use borrow.Author.Tests.{eq-eqb}
use lib.ListN.{length}
use Rattle.model.specs.Lists.{at, replace}
use Rattle.model.specs.Sheet.{Sheet}
use Rattle.model.specs.Word.{Memory}
use Rattle.model.specs.Job.{Phase, idle, plain, reading, exchanging, transacting, Task, Turn, counting, ticks}
use Rattle.model.specs.Machine.{Machine, no_task, task_at, Running, nobody, running, running_of, move, statement}
use Rattle.model.specs.Start.{start_machine}
use Rattle.model.specs.History.{Operation, History, no_history, event_of, observed}
use Rattle.model.specs.Exchange.{Exchange}
use Rattle.model.specs.Rates.{own_before}
use Rattle.model.specs.ExactTicks.{Tally, no_tally, tally_in, tally_before, step_tally}
use Rattle.model.specs.Arguments.{Arguments}
use Rattle.model.proofs.Lists.{same?, replace-same, replace-other, impossible}
use Rattle.model.proofs.Fit.Sheet.{SheetFit}
use Rattle.model.proofs.History.Steps.{state_after, arrived_at, history_after, state-next, history-next}
use Rattle.model.proofs.Fit.Running.{Foremost, running_foremost}
use Rattle.model.proofs.History.Arrive.{JobArrived, same_job, new_job, Arrived, none_runs}
use Rattle.model.proofs.History.Moves.{given}
use Rattle.model.proofs.History.Notes.{lost?, Notes, notes_nothing, notes}
use Rattle.model.proofs.History.Statement.{moves}
use Rattle.model.proofs.History.Noted.{latest_of}
use Rattle.model.proofs.History.Linked.{InOperation, given_to}
use Rattle.model.proofs.History.Ticks.{given-arrived, MachineLinked, next-of, arrived-at, arrived-now, arrived_linked}
use Rattle.model.proofs.History.Start.{started}
use Rattle.model.proofs.Demand3.Always.{holds, holds_at, value-now}
use Rattle.model.proofs.Demand3.State.{ready}
use Rattle.model.proofs.Demand3.Cells.{situation, exchange_act}
use Rattle.model.proofs.Transactions.Given.{exchange_in}
use Rattle.model.proofs.Exchanges.Rates.{MarksOther, plus}
use Rattle.model.proofs.Exchanges.Marks.{marks-other}
use Rattle.model.proofs.Rates.Own.{other-task, own-none, own_runs, own-waits, tally-none, tally-runs, tally-waits}
use Rattle.model.proofs.Rates.Status.{status-stays}
use Rattle.model.proofs.Rates.Timely.{Timely, RateBy, amended, timely-inside, timely_others, timely-next, timely-first}
use Rattle.model.proofs.Rates.Ended.{InTime, nothing_in_time, in_time}
use Rattle.model.proofs.Rates.Open.{Unended, unended}

-- after n ticks, `who` having done their statements, and task p `what p` in them
pub record Rated (who : ℕ → Running) (what : ℕ → ℕ → Tally) (n : ℕ) (m : Machine) (h : History) : Type 0 where
  pub timely : (p : ℕ)
      → Timely (own_before who p (latest_of h p) n) (tally_before (what p) (latest_of h p) n) p m.memory (task_at m.tasks p).job.phase
  pub ended : InTime who what h
  pub unended : Unended h (given_to m.tasks)

inside? : {P : Type 0} (f : Phase) → (InOperation (given f) → P) → ((InOperation (given f) → ⊥) → P) → P
inside? idle f g = g (λ i. i)
inside? plain f g = g (λ i. i)
inside? (reading r w s) f g = f tt
inside? (exchanging r x) f g = f tt
inside? (transacting x s) f g = f tt

rate_outside : (g : Option Arguments) (vs : List ℕ) (t : ℕ) (c : Tally) → (InOperation g → ⊥) → RateBy g vs t c
rate_outside none vs t c n = tt
rate_outside (some a) vs t c n = absurd (n tt)

-- outside an operation there is no step of an exchange
none_done : (p : ℕ) (m : Memory) (f : Phase) → (InOperation (given f) → ⊥) → tally_in p m f ≡ no_tally
none_done p m idle n = refl
none_done p m plain n = refl
none_done p m (reading r w s) n = refl
none_done p m (exchanging r x) n = absurd (n tt)
none_done p m (transacting x s) n = absurd (n tt)

none-ended : (who : ℕ → Running) (what : ℕ → ℕ → Tally) → InTime who what no_history
unfolding at
none-ended who what = record { ended = λ a l o is e. impossible (cc) }

none_open : (inside : ℕ → Option Arguments) → Unended no_history inside
unfolding at
none_open inside = record { stands = λ a o is e. impossible (cc) }

module _ {who : ℕ → Running} {what : ℕ → ℕ → Tally} {h : History} where
  -- RELEASES ARRIVE
  rated_arrived : {n : ℕ} {m m' : Machine} → Arrived m m' → Rated who what n m h → Rated who what n m' h
  rated_arrived {n} {m} {m'} a k = record {
    timely = λ p. rw a.memory (go p (a.task p).job);
    ended = k.ended;
    unended = subst (λ (g : ℕ → Option Arguments). Unended h g) (sym (fun_ext (λ p. given-arrived (a.task p)))) k.unended;
  }
    where
      go : (p : ℕ) → JobArrived (task_at m.tasks p) (task_at m'.tasks p).job
          → Timely (own_before who p (latest_of h p) n) (tally_before (what p) (latest_of h p) n) p m.memory (task_at m'.tasks p).job.phase
      go p (same_job e) = rw e (k.timely p)
      go p (new_job i e) = rw e tt

  module _ {m : Machine} (linked : MachineLinked m h) (k : Rated who what m.now m h) where
    -- AN IDLE TICK
    rated_idle : running_of m ≡ nobody → Rated who what (suc m.now) (move m nobody) (observed m nobody h)
    unfolding move observed
    rated_idle e = record {
      timely = λ p. rw (none_runs m e p) tt;
      ended = nothing_in_time who what m.now 0 h linked.linked.size k.ended;
      unended =
          unended m.now 0 h linked.linked.size (omega (arith, linked.linked.latest)) (given_to m.tasks) (given_to m.tasks) (λ q ne. refl)
          k.unended
          notes_nothing none_inside none_inside;
    }
      where
        none_inside : given_to m.tasks 0 ≡ none
        none_inside = rw (none_runs m e 0) refl

    -- TASK p RUNS
    module _ (p : ℕ) (r : Foremost m p) (w : who m.now ≡ running p) (below : p < length m.memory.status)
        (does : what p m.now ≡ tally_in p m.memory (task_at m.tasks p).job.phase) (rest : (q : ℕ) → q ≢ p → what q m.now ≡ no_tally)
        (marks : (x : Exchange) → exchange_in (task_at m.tasks p).job.phase ≡ some x → MarksOther p x x.step) where
      abbrev task : Task
      task = task_at m.tasks p

      abbrev after : Turn
      after = statement p m.memory task task.job.phase

      one_more : own_before who p (latest_of h p) (suc m.now) ≡ suc (own_before who p (latest_of h p) m.now)
      one_more = own_runs who p (latest_of h p) m.now (linked.linked.past p) w

      first_one : own_before who p m.now (suc m.now) ≡ 1
      first_one = own_runs who p m.now m.now (omega arith) w ∙ ap suc (own-none who p m.now m.now (omega arith))

      more_done : tally_before (what p) (latest_of h p) (suc m.now)
          ≡ plus (tally_before (what p) (latest_of h p) m.now) (tally_in p m.memory task.job.phase)
      more_done = tally-runs (what p) (latest_of h p) m.now (linked.linked.past p) does

      -- the first tick of an operation is no step of an exchange, or its Start
      first_done : (InOperation (given task.job.phase) → ⊥) → tally_before (what p) m.now (suc m.now) ≡ no_tally
      first_done o =
          tally-runs (what p) m.now m.now (omega arith) (does ∙ none_done p m.memory task.job.phase o)
          ∙ ap (λ (d : Tally). plus d no_tally) (tally-none (what p) m.now m.now (omega arith))

      own-timely : Timely (own_before who p (latest_of (observed m (running p) h) p) (suc m.now))
          (tally_before (what p) (latest_of (observed m (running p) h) p) (suc m.now)) p after.memory after.task.job.phase
      own-timely =
          let n = next-of linked p r in
          inside? task.job.phase
          (λ i. timely-inside _ _ p after.memory after.task.job.phase (λ j. on (n.stays i)) (λ j. on-done (n.stays i))
          (timely-next p m.memory task below _ _ task.job.phase refl marks (k.timely p) i).inside)
          (λ o. timely-inside _ _ p after.memory after.task.job.phase (λ j. go o (n.since j)) (λ j. go_done o (n.since j))
          (timely-first p m.memory task below task.job.phase refl o))
        where
          on : latest_of (observed m (running p) h) p ≡ latest_of h p
              → own_before who p (latest_of (observed m (running p) h) p) (suc m.now) ≡ suc (own_before who p (latest_of h p) m.now)
          on e = rw e one_more

          on-done : latest_of (observed m (running p) h) p ≡ latest_of h p
              → tally_before (what p) (latest_of (observed m (running p) h) p) (suc m.now)
              ≡ plus (tally_before (what p) (latest_of h p) m.now) (tally_in p m.memory task.job.phase)
          on-done e = rw e more_done

          go_done : (InOperation (given task.job.phase) → ⊥)
              → InOperation (given task.job.phase) ⊎ (latest_of (observed m (running p) h) p ≡ m.now)
              → tally_before (what p) (latest_of (observed m (running p) h) p) (suc m.now) ≡ no_tally
          go_done o (inl i) = absurd (o i)
          go_done o (inr e) = rw e (first_done o)

          go : (InOperation (given task.job.phase) → ⊥)
              → InOperation (given task.job.phase) ⊎ (latest_of (observed m (running p) h) p ≡ m.now)
              → own_before who p (latest_of (observed m (running p) h) p) (suc m.now) ≡ 1
          go o (inl i) = absurd (o i)
          go o (inr e) = rw e first_one

      rate : given after.task.job.phase ≡ none → (o : Operation)
          → RateBy (given task.job.phase) (amended (event_of m.now after.did) o).answers (own_before who p (latest_of h p) (suc m.now))
          (tally_before (what p) (latest_of h p) (suc m.now))
      rate e o = inside? task.job.phase
          (λ i. rw (one_more, more_done)
          ((timely-next p m.memory task below _ _ task.job.phase refl marks (k.timely p) i).ended e m.now o))
          (λ n. rate_outside (given task.job.phase) _ _ _ n)

      noted-runs : Notes m.now p h (given task.job.phase) (event_of m.now after.did) (lost? after.did) (given after.task.job.phase)
      noted-runs = notes m.now p h (moves p m.memory task task.job.phase refl) (linked.linked.opened p)

      ended-runs : InTime who what (observed m (running p) h)
      unfolding observed
      ended-runs =
          in_time who what m.now p h linked.linked.size k.ended noted-runs rate

      abbrev next : List Task
      next = replace m.tasks p (counting ticks after.task)

      open_runs : Unended (observed m (running p) h) (given_to next)
      unfolding observed
      open_runs =
          unended m.now p h linked.linked.size (omega (arith, linked.linked.latest, linked.size, r.below)) (given_to m.tasks)
          (given_to next)
          (λ q ne. rw (replace-other no_task m.tasks p q (counting ticks after.task) ne) refl) k.unended
          noted-runs refl
          (rw (replace-same no_task m.tasks p (counting ticks after.task) r.below) refl)

      rated_runs : Rated who what (suc m.now) (move m (running p)) (observed m (running p) h)
      unfolding move
      rated_runs = record { timely = timely; ended = ended-runs; unended = open_runs }
        where
          timely : (q : ℕ)
              → Timely (own_before who q (latest_of (observed m (running p) h) q) (suc m.now))
              (tally_before (what q) (latest_of (observed m (running p) h) q) (suc m.now)) q (move m (running p)).memory
              (task_at (move m (running p)).tasks q).job.phase
          timely q = same? q p
              (λ e. rw (e, replace-same no_task m.tasks p (counting ticks after.task) r.below) own-timely)
              (λ ne. rw (
                replace-other no_task m.tasks p q (counting ticks after.task) ne,
                (next-of linked p r).other q ne,
                own-waits who q (latest_of h q) m.now (other-task (who m.now) ne w),
                tally-waits (what q) (latest_of h q) m.now (rest q ne),
              )
              (timely_others _ _ q m.memory _ (task_at m.tasks q).job.phase (status-stays p q ne m.memory task) (k.timely q)))

-- EVERY TICK
-- what a task does that runs, and one that does not
pub runs_done : (m : Machine) {p : ℕ} → running_of m ≡ running p → step_tally m p ≡ tally_in p m.memory (task_at m.tasks p).job.phase
runs_done m {p} e = rw (e, eq-eqb p p refl) refl

pub waits-done : (m : Machine) {p q : ℕ} → running_of m ≡ running p → q ≢ p → step_tally m q ≡ no_tally
waits-done m {p} {q} e ne = rw (other-task (running_of m) ne e) refl

module _ {s : Sheet} (c : SheetFit s) where
  -- who does the statement of tick t
  abbrev pub who : ℕ → Running
  who t = running_of (arrived_at (start_machine s) t)

  pub below_status : (t p : ℕ) → Foremost (arrived_at (start_machine s) t) p → p < length (arrived_at (start_machine s) t).memory.status
  below_status t p r = let f = (holds_at c t (holds c t)).fit in omega (arith, r.below, f.tasks, f.memory.status)

  abbrev pub what : ℕ → ℕ → Tally
  what p t = step_tally (arrived_at (start_machine s) t) p

  -- the marks of the exchange at work are on other tasks
  pub marks-at : (t p : ℕ) → Foremost (arrived_at (start_machine s) t) p → (x : Exchange)
      → exchange_in (task_at (arrived_at (start_machine s) t).tasks p).job.phase ≡ some x → MarksOther p x x.step
  marks-at t p r x e =
      marks-other x
      (situation (ready c (arrived_linked (started c) t) (holds_at c t (holds c t)) (value-now c t (holds c t)) p r)
      (exchange_act (task_at (arrived_at (start_machine s) t).tasks p).job.phase x e))

  module _ (t : ℕ) (k : Rated who what t (state_after (start_machine s) t) (history_after (start_machine s) t)) where
    abbrev now : Machine
    now = arrived_at (start_machine s) t

    rated_at : Rated who what now.now now (history_after (start_machine s) t)
    rated_at =
        subst (λ (u : ℕ). Rated who what u now (history_after (start_machine s) t)) (sym (arrived-now (started c) t))
        (rated_arrived (arrived-at (start_machine s) t) k)

    step : (r : Running) → running_of now ≡ r → Rated who what (suc now.now) (move now r) (observed now r (history_after (start_machine s) t))
    step nobody e = rated_idle (arrived_linked (started c) t) rated_at e
    step (running p) e =
        let r = running_foremost e in
        rated_runs (arrived_linked (started c) t) rated_at p r (ap who (arrived-now (started c) t) ∙ e) (below_status t p r)
        (ap (what p) (arrived-now (started c) t) ∙ runs_done now e) (λ q ne. ap (what q) (arrived-now (started c) t) ∙ waits-done now e ne) (marks-at t p r)

    rated_next : Rated who what (suc t) (state_after (start_machine s) (suc t)) (history_after (start_machine s) (suc t))
    rated_next =
        subst (λ (z : Machine). Rated who what (suc t) z (history_after (start_machine s) (suc t))) (sym (state-next (start_machine s) t))
        (subst (λ (z : History). Rated who what (suc t) (move now (running_of now)) z) (sym (history-next (start_machine s) t))
        (subst (λ (u : ℕ). Rated who what (suc u) (move now (running_of now)) (observed now (running_of now) (history_after (start_machine s) t)))
        (arrived-now (started c) t)
        (step (running_of now) refl)))

  pub rated : (t : ℕ) → Rated who what t (state_after (start_machine s) t) (history_after (start_machine s) t)
  unfolding state_after history_after
  rated zero = record { timely = λ p. rw ((started c).idle p) tt; ended = none-ended who what; unended = none_open (given_to (start_machine s).tasks) }
  rated (suc t) = rated_next t (rated t)
