-- Ticks of its own, counted one tick at a time; and the machine in tick u of a run is the one after u ticks.
use Prim.Native.Nat.{ℕ, zero, suc, ◌+◌, ◌≤◌}
use mathlib.Core.Bool.{Bool, true, false, true≢false, ◌&&◌}
use mathlib.Core.Path.{◌≡◌, refl, sym, ◌∙◌, ap}
use mathlib.Core.Logic.{◌≢◌, ◌⊎◌, inl, inr}
use mathlib.Core.List.{List, [], ◌∷◌}
use native.Mathlib.Omega.{arith}
use lib.Dec.{leb}
use borrow.Author.Tests.{eq-eqb, ne_eqb}
use Rattle.model.specs.Lists.{at}
use Rattle.model.specs.Command.{Release}
use Rattle.model.specs.Job.{Task}
use Rattle.model.specs.Machine.{Machine, Running, nobody, running, running_of, move_any, move}
use Rattle.model.specs.Machine.{tick, over, none?, none_waits, nobody?, run_by, run, arrive, enter, waiting_at}
use Rattle.model.specs.Rates.{in_tick, running_in, is_task, one_if, only_if, sum_before, own_before}
use Rattle.model.specs.ExactTicks.{Tally, no_tally, tally_before}
use Rattle.model.proofs.Lists.{test?}
use Rattle.model.proofs.Sums.{sum_none, sum_next}
use Rattle.model.proofs.Exchanges.Rates.{plus}
use Rattle.model.proofs.Fit.Elements.{and_left, and_right}
use Rattle.model.proofs.Fit.Waiting.{none_starts}
use Rattle.model.proofs.Fit.Running.{busy, running_foremost, nobody-none, none-nobody}
use Rattle.model.proofs.History.Steps.{state_after, arrived_at}

-- COUNTING
sum_waits : (f : ℕ → ℕ) (a n : ℕ) → f n ≡ 0 → sum_before f a (suc n) ≡ sum_before f a n
unfolding sum_before
sum_waits f a n e = rw e (go (leb a n))
  where
    go : (b : Bool) → sum_before f a n + only_if b 0 ≡ sum_before f a n
    go true = omega arith
    go false = omega arith

pub other-task : {p q : ℕ} (r : Running) → q ≢ p → r ≡ running p → is_task q r ≡ false
other-task {p} {q} r ne e = rw e (ne_eqb p q (λ z. ne (sym z)))

module _ (who : ℕ → Running) (p a : ℕ) where
  abbrev own : ℕ → ℕ
  own u = one_if (is_task p (who u))

  pub own-none : (n : ℕ) → n ≤ a → own_before who p a n ≡ 0
  unfolding own_before
  own-none n l = sum_none own a n l

  pub own_runs : (n : ℕ) → a ≤ n → who n ≡ running p → own_before who p a (suc n) ≡ suc (own_before who p a n)
  unfolding own_before
  own_runs n l e = let one : own n ≡ 1 = rw (e, eq-eqb p p refl) refl in omega (arith, sum_next own a n l)

  pub own-waits : (n : ℕ) → is_task p (who n) ≡ false → own_before who p a (suc n) ≡ own_before who p a n
  unfolding own_before sum_before
  own-waits n e = sum_waits own a n (rw e refl)

-- what was done in them
module _ (what : ℕ → Tally) (a : ℕ) where
  pub tally-none : (n : ℕ) → n ≤ a → tally_before what a n ≡ no_tally
  tally-none n l = rw (
    sum_none (λ u. (what u).tried) a n l,
    sum_none (λ u. (what u).differed) a n l,
    sum_none (λ u. (what u).fetched) a n l,
    sum_none (λ u. (what u).marked) a n l,
    sum_none (λ u. (what u).failed) a n l,
  ) refl

  pub tally-runs : (n : ℕ) {c : Tally} → a ≤ n → what n ≡ c → tally_before what a (suc n) ≡ plus (tally_before what a n) c
  tally-runs n l e = rw (
    ← e,
    sum_next (λ u. (what u).tried) a n l,
    sum_next (λ u. (what u).differed) a n l,
    sum_next (λ u. (what u).fetched) a n l,
    sum_next (λ u. (what u).marked) a n l,
    sum_next (λ u. (what u).failed) a n l,
  ) refl

  pub tally-waits : (n : ℕ) → what n ≡ no_tally → tally_before what a (suc n) ≡ tally_before what a n
  tally-waits n e = rw (
    sum_waits (λ u. (what u).tried) a n (ap (λ (c : Tally). c.tried) e),
    sum_waits (λ u. (what u).differed) a n (ap (λ (c : Tally). c.differed) e),
    sum_waits (λ u. (what u).fetched) a n (ap (λ (c : Tally). c.fetched) e),
    sum_waits (λ u. (what u).marked) a n (ap (λ (c : Tally). c.marked) e),
    sum_waits (λ u. (what u).failed) a n (ap (λ (c : Tally). c.failed) e),
  ) refl

-- THE MACHINE IN TICK u
-- the same but for the clock
pub record Alike (m n : Machine) : Type 0 where
  pub memory : m.memory ≡ n.memory
  pub tasks : m.tasks ≡ n.tasks
  pub waiting : m.waiting ≡ n.waiting
  pub releases : m.releases ≡ n.releases

alike : (m : Machine) → Alike m m
alike m = record { memory = refl; tasks = refl; waiting = refl; releases = refl }

alike_back : {m n : Machine} → Alike m n → Alike n m
alike_back a = record { memory = sym a.memory; tasks = sym a.tasks; waiting = sym a.waiting; releases = sym a.releases }

alike_then : {m n k : Machine} → Alike m n → Alike n k → Alike m k
alike_then a b =
    record {
      memory = a.memory ∙ b.memory;
      tasks = a.tasks ∙ b.tasks;
      waiting = a.waiting ∙ b.waiting;
      releases = a.releases ∙ b.releases;
    }

-- nobody runs just where no job is unfinished
nobody_alike : (m n : Machine) → m.tasks ≡ n.tasks → nobody? (running_of m) ≡ nobody? (running_of n)
nobody_alike m n e = go (running_of m) refl
  where
    go : (r : Running) → running_of m ≡ r → nobody? r ≡ nobody? (running_of n)
    go nobody k = rw (none-nobody n (λ q. rw (← e) (nobody-none m k q))) refl
    go (running p) k = other (running_of n) refl
      where
        other : (r : Running) → running_of n ≡ r → false ≡ nobody? r
        other nobody l = absurd (true≢false (sym (running_foremost k).unfinished ∙ ap (λ (ts : List Task). busy ts p) e ∙ nobody-none n l p))
        other (running q) l = refl

over_alike : {m n : Machine} → Alike m n → over m ≡ over n
unfolding over
over_alike {m} {n} k = rw (nobody_alike m n k.tasks, k.waiting, k.releases) refl

-- a run that is over idles
none_left_lem : (l : List Release) → none? l ≡ true → l ≡ []
none_left_lem [] h = refl
none_left_lem (r ∷ l) h = cc

nobody-runs : (r : Running) → nobody? r ≡ true → r ≡ nobody
nobody-runs nobody h = refl
nobody-runs (running p) h = cc

none-waiting : (ls : List (List Release)) → none_waits ls ≡ true → (p : ℕ) → waiting_at ls p ≡ []
unfolding at
none-waiting [] h p = refl
none-waiting (l ∷ ls) h zero = none_left_lem l (and_left (none? l) (none_waits ls) h)
none-waiting (l ∷ ls) h (suc p) = none-waiting ls (and_right (none? l) (none_waits ls) h) p

module _ (m : Machine) (e : over m ≡ true) where
  abbrev none_left : Bool
  none_left = none? m.releases && none_waits m.waiting

  none-left-over : none_left ≡ true
  unfolding over
  none-left-over = and_left none_left (nobody? (running_of m)) e

  over-releases : m.releases ≡ []
  over-releases = none_left_lem m.releases (and_left (none? m.releases) (none_waits m.waiting) none-left-over)

  over-waiting : (p : ℕ) → waiting_at m.waiting p ≡ []
  over-waiting = none-waiting m.waiting (and_right (none? m.releases) (none_waits m.waiting) none-left-over)

  over-running : running_of m ≡ nobody
  unfolding over
  over-running = nobody-runs (running_of m) (and_right none_left (nobody? (running_of m)) e)

  over-arrives : Alike (enter m) m
  unfolding enter arrive
  over-arrives = rw (none_starts 8 {m = m} (λ p i. over-waiting p), over-releases)
      (record { memory = refl; tasks = refl; waiting = refl; releases = refl })

  over_enters : running_of (enter m) ≡ nobody
  over_enters = nobody-runs (running_of (enter m)) (nobody_alike (enter m) m over-arrives.tasks ∙ ap nobody? over-running)

  over-tick : Alike (tick m) m
  unfolding tick move_any move
  over-tick = let a = over-arrives in rw over_enters (record { memory = a.memory; tasks = a.tasks; waiting = a.waiting; releases = a.releases })

-- one tick more of the run, if it is not over
run-last : (u : ℕ) (m : Machine) → run (suc u) m ≡ run_by (over (run u m)) (λ n. n) (run u m)
unfolding run run_by
run-last zero m = test? (over m) (λ e. rw e refl) (λ e. rw e refl)
run-last (suc u) m = test? (over m) (λ e. rw (e, e) refl) (λ e. rw e (run-last u (tick m)))

-- the run with limit u is the machine after u ticks, or over before
abbrev After : Machine → ℕ → Type 0
After m u = (run u m ≡ state_after m u) ⊎ ((over (run u m) ≡ true) × Alike (run u m) (state_after m u))

after : (m : Machine) (u : ℕ) → After m u
unfolding run state_after run_by
after m zero = inl refl
after m (suc u) = test? (over (run u m)) (λ e. inr (stays e (either (after m u)))) (λ e. goes e (after m u))
  where
    either : After m u → Alike (run u m) (state_after m u)
    either (inl e) = rw e (alike (state_after m u))
    either (inr k) = k.1

    stays : over (run u m) ≡ true → Alike (run u m) (state_after m u) → (over (run (suc u) m) ≡ true) × Alike (run (suc u) m) (state_after m (suc u))
    stays e k =
        let idle = over-tick (state_after m u) (sym (over_alike k) ∙ e) in
        rw (run-last u m, e) (e, alike_then k (alike_back idle))

    goes : over (run u m) ≡ false → After m u → After m (suc u)
    goes e (inl k) = inl (rw (run-last u m, e) (ap tick k))
    goes e (inr k) = absurd (true≢false (sym k.0 ∙ e))

pub run_alike : (m : Machine) (u : ℕ) → Alike (run u m) (state_after m u)
run_alike m u = go (after m u)
  where
    go : After m u → Alike (run u m) (state_after m u)
    go (inl e) = rw e (alike (state_after m u))
    go (inr k) = k.1

-- so in tick u they have the same tasks and the same memory, and the same task runs
pub record InTick (m : Machine) (u : ℕ) : Type 0 where
  pub memory : (in_tick m u).memory ≡ (arrived_at m u).memory
  pub tasks : (in_tick m u).tasks ≡ (arrived_at m u).tasks
  pub waiting : (in_tick m u).waiting ≡ (arrived_at m u).waiting
  pub runs : running_in m u ≡ running_of (arrived_at m u)

pub in-tick : (m : Machine) (u : ℕ) → InTick m u
unfolding in_tick arrived_at
in-tick m u = go (after m u)
  where
    go : After m u → InTick m u
    go (inl e) =
        let same : enter (run u m) ≡ enter (state_after m u) = ap enter e in
        record {
          memory = ap (λ (n : Machine). n.memory) same;
          tasks = ap (λ (n : Machine). n.tasks) same;
          waiting = ap (λ (n : Machine). n.waiting) same;
          runs = ap running_of same;
        }
    go (inr k) =
        let over : over (state_after m u) ≡ true = sym (over_alike k.1) ∙ k.0 in
        let a = over-arrives (run u m) k.0 in
        let b = over-arrives (state_after m u) over in
        record {
          memory = a.memory ∙ k.1.memory ∙ sym b.memory;
          tasks = a.tasks ∙ k.1.tasks ∙ sym b.tasks;
          waiting = a.waiting ∙ k.1.waiting ∙ sym b.waiting;
          runs = over_enters (run u m) k.0 ∙ sym (over_enters (state_after m u) over);
        }
