-- Every tick keeps history and machine linked, and advances the history by at most one operation.
use Prim.Native.Nat.{ℕ, zero, suc, ◌<◌, ◌≤◌}
use mathlib.Core.Bool.{Bool, true}
use mathlib.Core.Path.{◌≡◌, refl, sym, ◌∙◌, ap, subst}
use mathlib.Core.Logic.{◌≢◌, ◌⊎◌, inl, inr}
use mathlib.Core.List.{List}
use mathlib.Core.Option.{Option, none, some}
use native.Mathlib.Decide.{dec_lt}
use native.Mathlib.Omega.{arith}
use lib.ListN.{length}
use borrow.Author.Tests.{lt-ltb}
use Rattle.model.specs.Lists.{replace}
use Rattle.model.specs.Job.{idle, Task, counting, ticks}
use Rattle.model.specs.Machine.{Machine, no_task, task_at, runs_before, Running, nobody, running, running_of, move, statement}
use Rattle.model.specs.History.{History, operation_at, nothing, observed}
use Rattle.model.specs.Arguments.{Arguments}
use Rattle.model.proofs.Lists.{same?, replace-same, replace-other, length-replace, at_default}
use Rattle.model.proofs.Fit.Tick.{move-now}
use Rattle.model.proofs.History.Steps.{state_after, arrived_at, history_after, state-next, history-next}
use Rattle.model.proofs.Fit.Running.{Foremost, running_foremost}
use Rattle.model.proofs.History.Arrive.{before-idle, JobArrived, TaskArrived, same_job, new_job, Arrived, arrived, none_runs}
use Rattle.model.proofs.History.Advance.{Advance, same}
use Rattle.model.proofs.History.Moves.{given, has_committed}
use Rattle.model.proofs.History.Statement.{moves}
use Rattle.model.proofs.History.Noted.{latest_of, number_below, noted_nothing, size-nothing, latest-size, latest-nothing}
use Rattle.model.proofs.History.Linked.{OpenBy, InOperation, given_to, Linked, Next, next}

-- a task whose release has come stands where it stood: outside
pub given-arrived : {t t' : Task} → TaskArrived t t' → given t'.job.phase ≡ given t.job.phase
given-arrived {t} {t'} a = go a.job
  where
    go : JobArrived t t'.job → given t'.job.phase ≡ given t.job.phase
    go (same_job e) = rw e refl
    go (new_job i e) = rw (e, i) refl

committed-arrived : {t t' : Task} → TaskArrived t t' → has_committed t'.job.phase ≡ has_committed t.job.phase
committed-arrived {t} {t'} a = go a.job
  where
    go : JobArrived t t'.job → has_committed t'.job.phase ≡ has_committed t.job.phase
    go (same_job e) = rw e refl
    go (new_job i e) = rw (e, i) refl

pub linked_arrived : {u : ℕ} {m m' : Machine} {h : History} → Arrived m m' → Linked u m.tasks h → Linked u m'.tasks h
linked_arrived a l = record {
  size = l.size;
  latest = l.latest;
  past = l.past;
  opened = λ p. rw (given-arrived (a.task p), committed-arrived (a.task p)) (l.opened p);
  apart = λ p q ne i j. l.apart p q ne (rw (given-arrived (a.task p)) at i) (rw (given-arrived (a.task q)) at j);
  rising = λ p q i j lt. l.rising p q (rw (given-arrived (a.task p)) at i) (rw (given-arrived (a.task q)) at j) lt;
}

-- an operation that stays as it is stays open
open_kept : (h h' : History) (p : ℕ) (g : Option Arguments) (b : Bool) → latest_of h' p ≡ latest_of h p
    → (InOperation g → operation_at h' (latest_of h p) ≡ operation_at h (latest_of h p)) → OpenBy h p g b → OpenBy h' p g b
open_kept h h' p none b l e o = tt
open_kept h h' p (some a) b l e o = record {
  operation = o.operation;
  is = rw l (e tt ∙ o.is);
  task = o.task;
  arguments = o.arguments;
  unended = o.unended;
  committed = o.committed;
  unspent = o.unspent;
  said = o.said;
}

pub latest_below : {u : ℕ} {ts : List Task} {h : History} → Linked u ts h → (p : ℕ) → InOperation (given_to ts p) → latest_of h p < u
latest_below {u} {ts} {h} l p i = go (given_to ts p) (has_committed (task_at ts p).job.phase) i (l.opened p)
  where
    go : (g : Option Arguments) (b : Bool) → InOperation g → OpenBy h p g b → latest_of h p < u
    go none b i o = absurd i
    go (some a) b i o = omega (arith, number_below h (latest_of h p) o.is, l.size)

-- task p runs, and is t' afterwards
module _ {u p : ℕ} {m : Machine} {h h' : History} (r : Foremost m p) (l : Linked u m.tasks h) (t' : Task)
    (n : Next u p h h' (given_to m.tasks p) (given t'.job.phase) (has_committed t'.job.phase)) where
  abbrev ts : List Task
  ts = m.tasks

  abbrev ts' : List Task
  ts' = replace ts p t'

  before-outside : (q : ℕ) → runs_before m q p ≡ true → InOperation (given_to ts q) → ⊥
  before-outside q b i = rw (before-idle r q b) at i

  -- of the open operations that of the task that runs began last
  pub last-begun : (q : ℕ) → q ≢ p → InOperation (given_to ts q) → InOperation (given_to ts p) → latest_of h q < latest_of h p
  last-begun q ne i j = go (dec_lt (latest_of h p) (latest_of h q))
    where
      go : Dec (latest_of h p < latest_of h q) → latest_of h q < latest_of h p
      go (yes lt) = absurd (before-outside q (lt-ltb p q (l.rising p q j i lt)) i)
      go (no gt) = let d = l.apart q p ne i j in omega arith

  -- the others are other ones
  pub other-operation : (q : ℕ) → q ≢ p → InOperation (given_to ts q) → operation_at h' (latest_of h' q) ≡ operation_at h (latest_of h q)
  other-operation q ne i = rw (n.other q ne) (n.else (latest_of h q) (let k = latest_below l q i in omega arith) (λ j. l.apart q p ne i j))

  other-given : (q : ℕ) → q ≢ p → given_to ts' q ≡ given_to ts q
  other-given q ne = rw (replace-other no_task ts p q t' ne) refl

  here_given : given_to ts' p ≡ given t'.job.phase
  here_given = rw (replace-same no_task ts p t' r.below) refl

  opened' : (q : ℕ) → OpenBy h' q (given_to ts' q) (has_committed (task_at ts' q).job.phase)
  opened' q = same? q p
      (λ e. rw (e, replace-same no_task ts p t' r.below) n.mine)
      (λ ne. rw (replace-other no_task ts p q t' ne) (open_kept h h' q (given_to ts q) (has_committed (task_at ts q).job.phase) (n.other q ne)
      (λ i. n.else (latest_of h q) (let k = latest_below l q i in omega arith) (λ j. l.apart q p ne i j)) (l.opened q)))

  -- another task's operation began before p's
  before-own : (q : ℕ) → q ≢ p → InOperation (given_to ts q) → InOperation (given_to ts p) ⊎ (latest_of h' p ≡ u) → latest_of h q < latest_of h' p
  before-own q ne i (inl k) = rw (n.stays k) (last-begun q ne i k)
  before-own q ne i (inr e) = rw e (latest_below l q i)

  own-later : (q : ℕ) → q ≢ p → InOperation (given_to ts' q) → InOperation (given_to ts' p) → latest_of h' q < latest_of h' p
  own-later q ne i j = rw (n.other q ne) (before-own q ne (rw (other-given q ne) at i) (n.since (rw here_given at j)))

  apart' : (q s : ℕ) → q ≢ s → InOperation (given_to ts' q) → InOperation (given_to ts' s) → latest_of h' q ≢ latest_of h' s
  apart' q s d i j = same? s p
      (λ e. let k = own-later q (λ z. d (z ∙ sym e)) i (rw e at j) in rw e (omega arith))
      (λ ne. same? q p
      (λ e. let k = own-later s ne j (rw e at i) in rw e (omega arith))
      (λ k. rw (n.other q k, n.other s ne) (l.apart q s d (rw (other-given q k) at i) (rw (other-given s ne) at j))))

  -- a lower task than the one that runs
  lower : (q : ℕ) → q ≢ p → InOperation (given_to ts q) → q < p
  lower q ne i = go (dec_lt q p)
    where
      go : Dec (q < p) → q < p
      go (yes lt) = lt
      go (no gt) = absurd (before-outside q (lt-ltb p q (omega arith)) i)

  rising' : (q s : ℕ) → InOperation (given_to ts' q) → InOperation (given_to ts' s) → latest_of h' q < latest_of h' s → q < s
  rising' q s i j lt = same? s p
      (λ e. same? q p
      (λ z. absurd (let k : latest_of h' p < latest_of h' p = rw (e, z) at lt in omega arith))
      (λ ne. rw e (lower q ne (rw (other-given q ne) at i))))
      (λ ne. same? q p
      (λ e. absurd (let k = own-later s ne j (rw e at i) in let g : latest_of h' p < latest_of h' s = rw e at lt in omega arith))
      (λ k. l.rising q s (rw (other-given q k) at i) (rw (other-given s ne) at j) (rw (n.other q k, n.other s ne) at lt)))

  past' : (q : ℕ) → latest_of h' q ≤ suc u
  past' q = same? q p (λ e. rw e (go n.own)) (λ ne. rw (n.other q ne) (omega (arith, l.past q)))
    where
      go : (latest_of h' p ≡ latest_of h p) ⊎ (latest_of h' p ≡ u) → latest_of h' p ≤ suc u
      go (inl e) = omega (arith, l.past p)
      go (inr e) = omega arith

  pub linked_runs : Linked (suc u) ts' h'
  linked_runs = record { size = n.size; latest = n.latest; past = past'; opened = opened'; apart = apart'; rising = rising' }

-- THE MACHINE with its history
pub record MachineLinked (m : Machine) (h : History) : Type 0 where
  pub size : length m.tasks ≡ 8
  pub linked : Linked m.now m.tasks h

pub arrive_linked : {m m' : Machine} {h : History} → Arrived m m' → MachineLinked m h → MachineLinked m' h
arrive_linked {m} {m'} {h} a g =
    record { size = a.size ∙ g.size; linked = subst (λ (z : ℕ). Linked z m'.tasks h) (sym a.now) (linked_arrived a g.linked) }

-- what the running task p's tick does to the history
module _ {m : Machine} {h : History} (g : MachineLinked m h) where
  pub next-of : (p : ℕ) → Foremost m p
      → Next m.now p h (observed m (running p) h) (given_to m.tasks p)
      (given (statement p m.memory (task_at m.tasks p) (task_at m.tasks p).job.phase).task.job.phase)
      (has_committed (statement p m.memory (task_at m.tasks p) (task_at m.tasks p).job.phase).task.job.phase)
  unfolding observed
  next-of p r = let below : p < 8 = omega (arith, r.below, g.size) in
      next m.now p h g.linked.size g.linked.latest below
      (moves p m.memory (task_at m.tasks p) (task_at m.tasks p).job.phase refl) (g.linked.opened p)

  pub move_advances : (r : Running) → running_of m ≡ r → Advance m.now h (observed m r h)
  unfolding observed
  move_advances nobody e = same (noted_nothing m.now 0 h g.linked.size)
  move_advances (running p) e = (next-of p (running_foremost e)).advance

  pub move_linked : (r : Running) → running_of m ≡ r → MachineLinked (move m r) (observed m r h)
  unfolding observed move
  move_linked nobody e = record {
    size = g.size;
    linked = record {
      size = size-nothing m.now 0 h g.linked.size;
      latest = latest-size m.now 0 h g.linked.size nothing ∙ g.linked.latest;
      past = λ q. rw (latest-nothing m.now 0 h g.linked.size q) (omega (arith, g.linked.past q));
      opened = λ q. rw (none_runs m e q) tt;
      apart = λ q s d i j. absurd (rw (none_runs m e q) at i);
      rising = λ q s i j lt. absurd (rw (none_runs m e q) at i);
    };
  }
  move_linked (running p) e =
      let r = running_foremost e in
      let b = m.tasks in
      let t = (statement p m.memory (task_at b p) (task_at b p).job.phase).task in
      record { size = length-replace m.tasks p (counting ticks t) ∙ g.size; linked = linked_runs r g.linked (counting ticks t) (next-of p r) }

-- THE RUN
pub record Started (m : Machine) : Type 0 where
  pub now : m.now ≡ 0
  pub size : length m.tasks ≡ 8
  pub idle : (p : ℕ) → (task_at m.tasks p).job.phase ≡ idle

pub arrived-at : (m : Machine) (t : ℕ) → Arrived (state_after m t) (arrived_at m t)
unfolding arrived_at
arrived-at m t = arrived (state_after m t)

module _ {m : Machine} (s : Started m) where
  pub now-is : (t : ℕ) → (state_after m t).now ≡ t
  unfolding state_after
  now-is zero = s.now
  now-is (suc t) =
      ap (λ (n : Machine). n.now) (state-next m t) ∙ move-now (arrived_at m t) (running_of (arrived_at m t)) ∙ ap suc ((arrived-at m t).now ∙ now-is t)

  pub arrived-now : (t : ℕ) → (arrived_at m t).now ≡ t
  arrived-now t = (arrived-at m t).now ∙ now-is t

  pub machine_linked : (t : ℕ) → MachineLinked (state_after m t) (history_after m t)
  unfolding state_after history_after
  machine_linked zero = record {
    size = s.size;
    linked = record {
      size = sym s.now;
      latest = refl;
      past = λ p. let z = at_default {A = ℕ} 0 8 p in omega arith;
      opened = λ p. rw (s.idle p) tt;
      apart = λ p q d i j. absurd (rw (s.idle p) at i);
      rising = λ p q i j lt. absurd (rw (s.idle p) at i);
    };
  }
  machine_linked (suc t) =
      rw (state-next m t, history-next m t) (move_linked (arrive_linked (arrived-at m t) (machine_linked t)) (running_of (arrived_at m t)) refl)

  -- the same, tick t's releases having arrived
  pub arrived_linked : (t : ℕ) → MachineLinked (arrived_at m t) (history_after m t)
  arrived_linked t = arrive_linked (arrived-at m t) (machine_linked t)

  pub advance : (t : ℕ) → Advance t (history_after m t) (history_after m (suc t))
  advance t =
      rw (history-next m t)
      (subst (λ (z : ℕ). Advance z (history_after m t) (observed (arrived_at m t) (running_of (arrived_at m t)) (history_after m t))) (arrived-now t)
      (move_advances (arrived_linked t) (running_of (arrived_at m t)) refl))
