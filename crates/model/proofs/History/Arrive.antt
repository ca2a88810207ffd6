-- Before a tick's statement memory and clock stay and idle jobs may start; a task is chosen, and whoever would run before it is idle.
use Prim.Native.Nat.{ℕ}
use mathlib.Core.Bool.{true, false}
use mathlib.Core.Path.{◌≡◌, refl, ◌∙◌, ap}
use mathlib.Core.Logic.{◌≢◌}
use mathlib.Core.List.{List, []}
use lib.Dec.{ltb}
use lib.ListN.{length, replicate}
use borrow.Author.Tests.{ltb-true, ltb-false}
use Rattle.model.specs.Lists.{replace}
use Rattle.model.specs.Command.{BodyCommand}
use Rattle.model.specs.Job.{Phase, idle, plain, reading, exchanging, transacting, Job, job, Task, started}
use Rattle.model.specs.Machine.{Machine, no_task, task_at, unfinished, runs_before, nobody, running_of, unfinished_at, starting, behind, dropping, enter}
use Rattle.model.proofs.Fit.Enter.{Entering, oldest, starts, waits, drops, along, entered}
use Rattle.model.proofs.Fit.Elements.{replace-part}
use Rattle.model.proofs.Fit.Running.{busy, runs-not-after, Foremost, nobody-none}
use Rattle.model.proofs.Lists.{same?, test?, replace-same, replace-other, length-replace, replace-past, impossible}

pub idle-phase : (f : Phase) → unfinished f ≡ false → f ≡ idle
idle-phase idle e = refl
idle-phase plain e = cc
idle-phase (reading r w s) e = cc
idle-phase (exchanging r x) e = cc
idle-phase (transacting x s) e = cc

-- RELEASES
pub data JobArrived (t : Task) (j : Job) : Type 0 where
  same_job : j ≡ t.job → JobArrived t j
  new_job : t.job.phase ≡ idle → j ≡ (started t).job → JobArrived t j

-- a task before and after releases: what same_job, and whether a job has started
pub record TaskArrived (t t' : Task) : Type 0 where
  pub body : t'.body ≡ t.body
  pub copies : t'.copies ≡ t.copies
  pub lost : t'.counts.lost ≡ t.counts.lost
  pub ticks : t'.counts.ticks ≡ t.counts.ticks
  pub job : JobArrived t t'.job

same-task : {t t' : Task} → t' ≡ t → TaskArrived t t'
same-task e = record { body = rw e refl; copies = rw e refl; lost = rw e refl; ticks = rw e refl; job = same_job (rw e refl) }

new-job : {t t' : Task} → t.job.phase ≡ idle → t' ≡ started t → TaskArrived t t'
new-job i e = record { body = rw e refl; copies = rw e refl; lost = rw e refl; ticks = rw e refl; job = new_job i (rw e refl) }

arrived_twice : {t t' t'' : Task} → TaskArrived t t' → TaskArrived t' t'' → TaskArrived t t''
arrived_twice {t} {t'} {t''} a b =
    record {
      body = b.body ∙ a.body;
      copies = b.copies ∙ a.copies;
      lost = b.lost ∙ a.lost;
      ticks = b.ticks ∙ a.ticks;
      job = go a.job b.job;
    }
  where
    go : JobArrived t t'.job → JobArrived t' t''.job → JobArrived t t''.job
    go (same_job e) (same_job f) = same_job (f ∙ e)
    go (same_job e) (new_job i f) = new_job (rw e at i) (f ∙ ap (λ (l : List BodyCommand). job plain l (replicate 8 0) []) a.body)
    go (new_job i e) (same_job f) = new_job i (f ∙ e)
    go (new_job i e) (new_job j f) = let z : ◌≡◌ {A = Phase} plain idle = rw e at j in impossible (cc)

pub record Arrived (m m' : Machine) : Type 0 where
  pub memory : m'.memory ≡ m.memory
  pub now : m'.now ≡ m.now
  pub size : length m'.tasks ≡ length m.tasks
  pub task : (p : ℕ) → TaskArrived (task_at m.tasks p) (task_at m'.tasks p)

one_starts : (ts : List Task) (p q : ℕ) → (task_at ts p).job.phase ≡ idle → TaskArrived (task_at ts q) (task_at (replace ts p (started (task_at ts p))) q)
one_starts ts p q e = same? q p
    (λ z. rw z (test? (ltb p (length ts))
    (λ l. new-job e (replace-same no_task ts p _ (ltb-true p (length ts) l)))
    (λ l. same-task (rw (replace-past ts p (started (task_at ts p)) (ltb-false p (length ts) l)) refl))))
    (λ ne. same-task (replace-other no_task ts p q _ ne))

arrived-then : {m n k : Machine} → Arrived m n → Arrived n k → Arrived m k
arrived-then a b =
    record { memory = b.memory ∙ a.memory; now = b.now ∙ a.now; size = b.size ∙ a.size; task = λ q. arrived_twice (a.task q) (b.task q) }

same-tasks : {m n : Machine} → n.memory ≡ m.memory → n.now ≡ m.now → n.tasks ≡ m.tasks → Arrived m n
same-tasks {m} e f g =
    record { memory = e; now = f; size = ap length g; task = λ q. same-task (ap (λ (ts : List Task). task_at ts q) g) }

starting-arrived : (p : ℕ) (m : Machine) → unfinished_at m p ≡ false → Arrived m (starting p m)
starting-arrived p m e =
    record { memory = refl; now = refl; size = length-replace m.tasks p _; task = λ q. one_starts m.tasks p q (idle-phase _ e) }

dropping-arrived : (p : ℕ) (m : Machine) → Arrived m (dropping p m)
dropping-arrived p m =
    record {
      memory = refl;
      now = refl;
      size = length-replace m.tasks p _;
      task = λ q. record {
        body = replace-part no_task (λ (t : Task). t.body) m.tasks p _ refl q;
        copies = replace-part no_task (λ (t : Task). t.copies) m.tasks p _ refl q;
        lost = replace-part no_task (λ (t : Task). t.counts.lost) m.tasks p _ refl q;
        ticks = replace-part no_task (λ (t : Task). t.counts.ticks) m.tasks p _ refl q;
        job = same_job (replace-part no_task (λ (t : Task). t.job) m.tasks p _ refl q);
      };
    }

entering-arrived : (m n : Machine) → Entering m n → Arrived m n
entering-arrived m n (oldest p r l h u w) = arrived-then (same-tasks refl refl refl) (starting-arrived p (behind p l m) u)
entering-arrived m n (starts r l d u) = arrived-then (starting-arrived r.task m u) (same-tasks refl refl refl)
entering-arrived m n (waits r l d u k) = same-tasks refl refl refl
entering-arrived m n (drops r l d u k) = arrived-then (dropping-arrived r.task m) (same-tasks refl refl refl)

pub arrived : (m : Machine) → Arrived m (enter m)
arrived m = along (Arrived m) (λ n k s a. arrived-then a (entering-arrived n k s)) (entered m []) (same-tasks refl refl refl)

-- THE TASK THAT RUNS: whoever would run before it is idle
pub before-idle : {m : Machine} {p : ℕ} → Foremost m p → (q : ℕ) → runs_before m q p ≡ true → (task_at m.tasks q).job.phase ≡ idle
before-idle {m} {p} h q b = test? (busy m.tasks q) (λ u. absurd (runs-not-after m p q (h.first q (other u) u) b)) (λ e. idle-phase _ e)
  where
    other : busy m.tasks q ≡ true → q ≢ p
    other u e = runs-not-after m p p (rw e at b) (rw e at b)

pub none_runs : (m : Machine) → running_of m ≡ nobody → (q : ℕ) → (task_at m.tasks q).job.phase ≡ idle
none_runs m e q = idle-phase (task_at m.tasks q).job.phase (nobody-none m e q)
