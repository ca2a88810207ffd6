-- What holds after every tick of an accepted sheet's run: the machine is well formed, and so say the exchange and the transaction layer with their
-- knowledge of the past.
use Prim.Native.Nat.{ℕ, suc, ◌<◌}
use mathlib.Core.Path.{◌≡◌, refl, sym, ◌∙◌, ap}
use mathlib.Core.Logic.{◌≢◌, ◌⊎◌, inl, inr}
use mathlib.Core.List.{List}
use mathlib.Core.Option.{Option, none, some}
use native.Mathlib.Omega.{arith}
use lib.ListN.{length, length-map}
use Rattle.model.specs.Lists.{replace}
use Rattle.model.specs.Sheet.{Sheet}
use Rattle.model.specs.Word.{Memory, current_of}
use Rattle.model.specs.Job.{Task, counting, ticks}
use Rattle.model.specs.Machine.{Machine, no_task, task_at, running, move}
use Rattle.model.specs.History.{Operation, History, observed}
use Rattle.model.specs.Arguments.{Arguments}
use Rattle.model.proofs.Lists.{same?, replace-same, replace-other, map-replace}
use Rattle.model.proofs.Fit.Sheet.{SheetFit}
use Rattle.model.proofs.Fit.Machine.{Fit}
use Rattle.model.proofs.Fit.Statement.{statement_fit}
use Rattle.model.proofs.Fit.Releases.{tasks-of}
use Rattle.model.proofs.Fit.Tick.{declared}
use Rattle.model.proofs.Exchanges.Act.{Act, free, act_at}
use Rattle.model.proofs.Exchanges.Invariant.{Invariant}
use Rattle.model.proofs.Exchanges.Reorder.{invariant_reordered, past_reordered}
use Rattle.model.proofs.Transactions.Facts.{slots_of, TaskFacts, Transactions}
use Rattle.model.proofs.Transactions.Owners.{owners_stay}
use Rattle.model.proofs.Transactions.Contents.{ext_at}
use Rattle.model.proofs.Transactions.Machine.{statement_of, Later, statement_keeps}
use Rattle.model.proofs.Transactions.Machine.{RunningTask}
use Rattle.model.proofs.Fit.Running.{Foremost}
use Rattle.model.proofs.History.Arrive.{JobArrived, TaskArrived, same_job, new_job, Arrived}
use Rattle.model.proofs.History.Statement.{moves}
use Rattle.model.proofs.History.Notes.{notes}
use Rattle.model.proofs.History.Moves.{given}
use Rattle.model.proofs.History.Noted.{latest_of}
use Rattle.model.proofs.History.Linked.{InOperation, given_to}
use Rattle.model.proofs.History.Ticks.{given-arrived, latest_below, last-begun, MachineLinked, next-of, other-operation}
use Rattle.model.proofs.Demand3.Acts.{task_act, acts_of, act-at, touches}
use Rattle.model.proofs.Demand3.Cells.{below, Ready, invariant_after, given-after}
use Rattle.model.proofs.Demand3.Past.{began_in, began-inside, acts_inside}
use Rattle.model.proofs.Demand3.Grounds.{PastAfter, past_after}
use Rattle.model.proofs.Demand3.Latest.{operation_or, latest_operation, latest-after}

-- in a run of the sheet, u ticks being done; `values t c` is the current value of cell c after t ticks
pub record Holds (s : Sheet) (values : ℕ → ℕ → ℕ) (u : ℕ) (m : Machine) (h : History) : Type 0 where
  pub fit : Fit s m
  pub invariant : Invariant (below (began_in u m.tasks h)) m.memory (acts_of m.tasks)
  pub past : PastAfter (began_in u m.tasks h) values u h m.memory (acts_of m.tasks)
  pub transactions : Transactions (length s.blocks) (length s.bodies) m.memory m.tasks (latest_operation h)

-- RELEASES ARRIVE
arrived_act : {t t' : Task} → TaskArrived t t' → task_act t' ≡ task_act t
arrived_act {t} {t'} a = go a.job
  where
    go : JobArrived t t'.job → task_act t' ≡ task_act t
    go (same_job e) = rw e
    go (new_job i e) = rw (e, i)

arrived_acts : {m m' : Machine} → Arrived m m' → acts_of m'.tasks ≡ acts_of m.tasks
arrived_acts {m} {m'} a =
    ext_at free (acts_of m'.tasks) (acts_of m.tasks) (length-map m'.tasks task_act ∙ a.size ∙ sym (length-map m.tasks task_act))
    (λ p l. act-at m'.tasks p ∙ arrived_act (a.task p) ∙ sym (act-at m.tasks p))

arrived-slots : {t t' : Task} → TaskArrived t t' → slots_of t' ≡ slots_of t
arrived-slots {t} {t'} a = go a.job
  where
    go : JobArrived t t'.job → slots_of t' ≡ slots_of t
    go (same_job e) = rw (e, a.copies)
    go (new_job i e) = rw (e, i, a.copies)

arrived_facts : (blocks : ℕ) (n : Memory) {t t' : Task} (o : Operation) → TaskArrived t t' → TaskFacts blocks n t o → TaskFacts blocks n t' o
arrived_facts blocks n {t} {t'} o a k = go a.job
  where
    go : JobArrived t t'.job → TaskFacts blocks n t' o
    go (same_job e) = rw (e, a.copies) k
    go (new_job i e) = rw e tt

arrived_transactions : {blocks tasks : ℕ} {m m' : Machine} {operations : ℕ → Operation} → Arrived m m'
    → Transactions blocks tasks m.memory m.tasks operations → Transactions blocks tasks m'.memory m'.tasks operations
arrived_transactions {blocks} {m = m} {operations = operations} a t = rw a.memory (record {
  owners = owners_stay (λ b. refl) (λ p. arrived-slots (a.task p)) t.owners;
  task = λ p l. arrived_facts blocks m.memory (operations p) (a.task p) (t.task p l);
})

-- THE ORDER may be given by other numbers, as long as they are the same for the tasks at work
pub past-again : {began began' : ℕ → ℕ} {values : ℕ → ℕ → ℕ} {u : ℕ} {h : History} {m : Memory} (acts : List Act)
    → ((r : ℕ) → act_at acts r ≢ free → began' r ≡ began r) → PastAfter began values u h m acts → PastAfter began' values u h m acts
past-again acts e P = record { pairs = P.pairs; past = past_reordered acts (λ r q n k b. rw (e r n, e q k) b) P.past }

pub invariant_again : {began began' : ℕ → ℕ} {m : Memory} (acts : List Act) → ((r : ℕ) → act_at acts r ≢ free → began' r ≡ began r)
    → Invariant (below began) m acts → Invariant (below began') m acts
invariant_again acts e I = invariant_reordered acts (λ r q n k b. rw (e r n, e q k) b) I

began-arrived : (u : ℕ) (h : History) {m m' : Machine} → Arrived m m' → (r : ℕ) → began_in u m'.tasks h r ≡ began_in u m.tasks h r
began-arrived u h a r = rw (given-arrived (a.task r))

pub holds_arrived : {s : Sheet} {values : ℕ → ℕ → ℕ} {u : ℕ} {m m' : Machine} {h : History} → Fit s m' → Arrived m m' → Holds s values u m h
    → Holds s values u m' h
holds_arrived {u = u} {m} {m'} {h} f a k = record {
  fit = f;
  invariant = rw (a.memory, arrived_acts a) (invariant_again (acts_of m.tasks) (λ r n. began-arrived u h a r) k.invariant);
  past = rw (a.memory, arrived_acts a) (past-again (acts_of m.tasks) (λ r n. began-arrived u h a r) k.past);
  transactions = arrived_transactions a k.transactions;
}

-- TASK p RUNS
module _ {s : Sheet} (c : SheetFit s) {values : ℕ → ℕ → ℕ} {m : Machine} {h : History} (linked : MachineLinked m h) (k : Holds s values m.now m h)
    (now : (a : ℕ) → values m.now a ≡ current_of m.memory a) (p : ℕ) (r : Foremost m p) where
  pub declared-task : p < length s.bodies
  declared-task = declared c (tasks-of k.fit) p r.unfinished

  -- of the tasks inside an operation the one that runs is the last to have begun
  last : (q : ℕ) → q ≢ p → InOperation (given_to m.tasks q) → began_in m.now m.tasks h q < began_in m.now m.tasks h p
  last q ne i = rw (began-inside m.now m.tasks h q i) (go (given_to m.tasks p) refl)
    where
      go : (g : Option Arguments) → given_to m.tasks p ≡ g → latest_of h q < began_in m.now m.tasks h p
      go none e = rw e (latest_below linked.linked q i)
      go (some a) e = rw e (last-begun r linked.linked (statement_of p m.memory m.tasks).task (next-of linked p r) q ne i (rw e tt))

  pub ready : Ready (length s.words) (length s.blocks) (began_in m.now m.tasks h) m.memory m.tasks p
  ready = record {
    few_words = c.words;
    few_blocks = c.blocks;
    memory = k.fit.memory;
    size = k.fit.tasks;
    there = r.below;
    last = last;
    job = (k.fit.task p declared-task).phase;
    invariant = k.invariant;
  }

  pub running-task : RunningTask (length s.words) (length s.blocks) (length s.bodies) p m.memory m.tasks (latest_operation h)
  running-task = record {
    few_words = c.words;
    few_blocks = c.blocks;
    declared = declared-task;
    there = r.below;
    memory = k.fit.memory;
    copies = (k.fit.task p declared-task).copies;
    fit = λ q l. (k.fit.task q l).phase;
    fit_after =
        (statement_fit c.blocks k.fit.memory (task_at m.tasks p) (k.fit.task p declared-task).registers
        (k.fit.task p declared-task).copies p ready.job).phase;
    given = given-after ready refl (touches p m.memory (task_at m.tasks p) (task_at m.tasks p).job.phase refl);
    invariant = k.transactions;
  }

  later : Later p m.now m.memory m.tasks (latest_operation h) (latest_operation (observed m (running p) h))
  unfolding observed
  later = record {
    mine = λ x i e.
        latest-after m.now p h linked.linked.size (omega (arith, linked.linked.latest, linked.size, r.below))
        (notes m.now p h (moves p m.memory (task_at m.tasks p) (task_at m.tasks p).job.phase refl) (linked.linked.opened p));
    others = λ q ne x i e.
        ap operation_or (other-operation r linked.linked (statement_of p m.memory m.tasks).task (next-of linked p r) q ne (rw e tt));
  }

  acts_after : acts_of (replace m.tasks p (counting ticks (statement_of p m.memory m.tasks).task))
      ≡ replace (acts_of m.tasks) p (task_act (statement_of p m.memory m.tasks).task)
  acts_after = map-replace task_act m.tasks p (counting ticks (statement_of p m.memory m.tasks).task)

  abbrev tasks-after : List Task
  tasks-after = replace m.tasks p (counting ticks (statement_of p m.memory m.tasks).task)

  -- a task at work after the statement began when it had begun, or begins now
  began-after : (q : ℕ) → InOperation (given_to tasks-after q)
      → began_in (suc m.now) tasks-after (observed m (running p) h) q ≡ began_in m.now m.tasks h q
  began-after q i =
      began-inside (suc m.now) tasks-after (observed m (running p) h) q i
      ∙ same? q p (λ e. rw e (own (rw (e, here) at i)))
      (λ ne. (next-of linked p r).other q ne
      ∙ sym (began-inside m.now m.tasks h q
      (rw
      (ap (λ (t : Task). given t.job.phase)
      (replace-other no_task m.tasks p q (counting ticks (statement_of p m.memory m.tasks).task) ne))
      at i)))
    where
      here : given_to tasks-after p ≡ given (statement_of p m.memory m.tasks).task.job.phase
      here = rw (replace-same no_task m.tasks p (counting ticks (statement_of p m.memory m.tasks).task) r.below) refl

      was : (g : Option Arguments) → given_to m.tasks p ≡ g → (InOperation g → latest_of (observed m (running p) h) p ≡ latest_of h p)
          → InOperation g ⊎ (latest_of (observed m (running p) h) p ≡ m.now) → latest_of (observed m (running p) h) p ≡ began_in m.now m.tasks h p
      was none e f (inl j) = absurd j
      was none e f (inr z) = rw e z
      was (some a) e f j = rw e (f tt)

      own : InOperation (given (statement_of p m.memory m.tasks).task.job.phase)
          → latest_of (observed m (running p) h) p ≡ began_in m.now m.tasks h p
      own j = was (given_to m.tasks p) refl (next-of linked p r).stays ((next-of linked p r).since j)

  pub holds_runs : Fit s (move m (running p)) → Holds s values (suc m.now) (move m (running p)) (observed m (running p) h)
  unfolding move
  holds_runs f =
      let t = touches p m.memory (task_at m.tasks p) (task_at m.tasks p).job.phase refl in
      record {
        fit = f;
        invariant =
            invariant_again (acts_of tasks-after) (λ q b. began-after q (acts_inside tasks-after q b)) (rw acts_after (invariant_after ready refl t));
        past =
            past-again (acts_of tasks-after) (λ q b. began-after q (acts_inside tasks-after q b))
            (rw acts_after (past_after ready linked.linked (next-of linked p r) now k.past.past refl t));
        transactions = statement_keeps running-task m.now later;
      }
