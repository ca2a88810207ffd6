-- The task that runs is the foremost one with an unfinished job, and nobody runs just where no job is unfinished.
-- Of the order of urgency only this is used: it is strict and total. Its laws stand first.
use Prim.Native.Nat.{ℕ, suc, ◌+◌, ◌<◌, ◌≤◌}
use mathlib.Core.Path.{◌≡◌, refl, sym, ◌∙◌, ap, subst}
use mathlib.Core.Bool.{Bool, true, false, true≢false}
use mathlib.Core.Logic.{◌≢◌}
use mathlib.Core.List.{List, [], ◌∷◌}
use native.Mathlib.Omega.{arith}
use lib.ListN.{length}
use borrow.Author.Tests.{lt-ltb, ltb-true, ltb-false}
use Rattle.model.specs.Lists.{at}
use Rattle.model.specs.Job.{Task}
use Rattle.model.specs.Machine.{Machine, no_task, task_at, unfinished, runs_before, Running, nobody, running}
use Rattle.model.specs.Machine.{first_by, first_of, candidate, running_from, running_of}
use Rattle.model.proofs.Lists.{at-past, same?}
use Rattle.model.proofs.Fit.Elements.{below?}

-- THE ORDER OF URGENCY, now by task number
module _ (m : Machine) where
  pub runs-not-after : (p q : ℕ) → runs_before m p q ≡ true → runs_before m q p ≡ true → ⊥
  runs-not-after p q f b = let k = ltb-true q p f in let l = ltb-true p q b in omega arith

  pub runs_through : (p q r : ℕ) → runs_before m p q ≡ true → runs_before m q r ≡ true → runs_before m p r ≡ true
  runs_through p q r f b = let k = ltb-true q p f in let l = ltb-true r q b in lt-ltb r p (omega arith)

  pub runs-either : (p q : ℕ) → p ≢ q → runs_before m p q ≡ false → runs_before m q p ≡ true
  runs-either p q d f = let k = ltb-false q p f in lt-ltb p q (omega arith)

abbrev pub busy : List Task → ℕ → Bool
busy ts p = unfinished (task_at ts p).job.phase

-- the job of task p is unfinished, and runs before every other one
pub record Foremost (m : Machine) (p : ℕ) : Type 0 where
  pub below : p < length m.tasks
  pub unfinished : busy m.tasks p ≡ true
  pub first : (q : ℕ) → q ≢ p → busy m.tasks q ≡ true → runs_before m p q ≡ true

abbrev pub RunningFit : Machine → Running → Type 0
RunningFit m nobody = (q : ℕ) → busy m.tasks q ≡ false
RunningFit m (running p) = Foremost m p

-- the foremost of the tasks below n
record ForemostBelow (m : Machine) (n p : ℕ) : Type 0 where
  below : p < n
  unfinished : busy m.tasks p ≡ true
  first : (q : ℕ) → q ≢ p → q < n → busy m.tasks q ≡ true → runs_before m p q ≡ true

abbrev BestBelow : Machine → ℕ → Running → Type 0
BestBelow m n nobody = (q : ℕ) → q < n → busy m.tasks q ≡ false
BestBelow m n (running p) = ForemostBelow m n p

module _ (m : Machine) where
  abbrev ts : List Task
  ts = m.tasks

  finished_more : (n : ℕ) (r : Running) → busy ts n ≡ false → BestBelow m n r → BestBelow m (suc n) r
  finished_more n nobody e h = λ q l. same? q n (λ s. rw s e) (λ d. h q (omega arith))
  finished_more n (running p) e h = record {
    below = omega (arith, h.below);
    unfinished = h.unfinished;
    first = λ q d l u. same? q n (λ s. absurd (true≢false (sym u ∙ ap (busy ts) s ∙ e))) (λ k. h.first q d (omega arith) u);
  }

  -- task n is unfinished as well: by which of them runs before the other
  either_first : (n p : ℕ) (b : Bool) → runs_before m n p ≡ b → busy ts n ≡ true → ForemostBelow m n p → BestBelow m (suc n) (first_by b n p)
  either_first n p true o e h = record {
    below = omega arith;
    unfinished = e;
    first = λ q d l u. same? q p (λ s. rw s o) (λ k. runs_through m n p q o (h.first q k (omega arith) u));
  }
  either_first n p false o e h = record {
    below = omega (arith, h.below);
    unfinished = h.unfinished;
    first = λ q d l u. same? q n
        (λ s. rw s (runs-either m n p (λ z. d (s ∙ z)) o))
        (λ k. h.first q d (omega arith) u);
  }

  unfinished_more : (n : ℕ) (r : Running) → busy ts n ≡ true → BestBelow m n r → BestBelow m (suc n) (first_of m n r)
  unfinished_more n nobody e h = record {
    below = omega arith;
    unfinished = e;
    first = λ q d l u. absurd (true≢false (sym u ∙ h q (omega arith)));
  }
  unfinished_more n (running p) e h = either_first n p (runs_before m n p) refl e h

  candidate_fit : (n : ℕ) (r : Running) (b : Bool) → busy ts n ≡ b → BestBelow m n r → BestBelow m (suc n) (candidate b m n r)
  unfolding candidate
  candidate_fit n r true e h = unfinished_more n r e h
  candidate_fit n r false e h = finished_more n r e h

  -- over the tasks l from number n on
  from_fit : (l : List Task) (n : ℕ) (r : Running) → ((i : ℕ) → task_at l i ≡ task_at ts (n + i)) → BestBelow m n r
      → BestBelow m (n + length l) (running_from m n l r)
  unfolding running_from at
  from_fit [] n r s h = let z : n + 0 ≡ n = omega arith in rw z h
  from_fit (t ∷ l) n r s h =
      let z : n + suc (length l) ≡ suc n + length l = omega arith in
      let here : n + 0 ≡ n = omega arith in
      let same : busy ts n ≡ unfinished t.job.phase = ap (λ (u : Task). unfinished u.job.phase) (sym (rw here at (s 0))) in
      rw z (from_fit l (suc n) (candidate (unfinished t.job.phase) m n r)
      (λ i. let k : n + suc i ≡ suc n + i = omega arith in rw k at (s (suc i)))
      (candidate_fit n r (unfinished t.job.phase) same h))

  -- no job past the last task
  past : (q : ℕ) → length ts ≤ q → busy ts q ≡ false
  past q h = ap (λ (u : Task). unfinished u.job.phase) (at-past no_task ts q h)

  whole : (r : Running) → BestBelow m (length ts) r → RunningFit m r
  whole nobody h = λ q. below? q (length ts) (λ l. h q l) (λ l. past q l)
  whole (running p) h = record {
    below = h.below;
    unfinished = h.unfinished;
    first = λ q d u. below? q (length ts) (λ l. h.first q d l u) (λ l. absurd (true≢false (sym u ∙ past q l)));
  }

  pub running_fit : RunningFit m (running_of m)
  unfolding running_of
  running_fit =
      let z : 0 + length ts ≡ length ts = omega arith in
      let start : (i : ℕ) → task_at ts i ≡ task_at ts (0 + i) = λ i. let y : 0 + i ≡ i = omega arith in rw y refl in
      whole (running_of m) (rw z at (from_fit ts 0 nobody start (λ q (l : q < 0). absurd (omega arith))))

-- EXACTLY WHEN
pub running_foremost : {m : Machine} {p : ℕ} → running_of m ≡ running p → Foremost m p
running_foremost {m} e = subst (RunningFit m) e (running_fit m)

pub nobody-none : (m : Machine) → running_of m ≡ nobody → (q : ℕ) → busy m.tasks q ≡ false
nobody-none m e = subst (RunningFit m) e (running_fit m)

pub foremost_running : {m : Machine} {p : ℕ} → Foremost m p → running_of m ≡ running p
foremost_running {m} {p} h = go (running_of m) (running_fit m)
  where
    go : (r : Running) → RunningFit m r → r ≡ running p
    go nobody f = absurd (true≢false (sym h.unfinished ∙ f p))
    go (running q) f = same? q p (λ e. ap running e)
        (λ d. absurd (runs-not-after m q p (f.first p (λ z. d (sym z)) h.unfinished) (h.first q d f.unfinished)))

pub none-nobody : (m : Machine) → ((q : ℕ) → busy m.tasks q ≡ false) → running_of m ≡ nobody
none-nobody m h = go (running_of m) (running_fit m)
  where
    go : (r : Running) → RunningFit m r → r ≡ nobody
    go nobody f = refl
    go (running q) f = absurd (true≢false (sym f.unfinished ∙ h q))
