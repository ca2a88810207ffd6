-- The exchange of a COMMIT: from its Start on it is under way, in time, until the tick that ends it.
use Prim.Native.Nat.{ℕ, zero, suc, ◌+◌, ◌*◌, ◌<◌, ◌≤◌}
use mathlib.Core.Bool.{Bool, true}
use mathlib.Core.Path.{◌≡◌, refl, sym, ◌∙◌, ap}
use mathlib.Core.Logic.{◌≢◌, ◌⊎◌, inl, inr}
use mathlib.Core.List.{List}
use native.Mathlib.Omega.{arith}
use lib.ListN.{length}
use Rattle.model.specs.Sheet.{Sheet}
use Rattle.model.specs.Word.{Memory, set_status}
use Rattle.model.specs.Exchange.{Entry, Exchange, exchange_of, start, test, Exchanged, goes, ends, exchange_tick}
use Rattle.model.specs.Job.{Transaction, committing, idle, transacting, counting, ticks}
use Rattle.model.specs.Transaction.{transaction_tick, committing_by}
use Rattle.model.specs.Machine.{Machine, no_task, task_at, Running, nobody, running, running_of, move, statement}
use Rattle.model.specs.Start.{start_machine}
use Rattle.model.specs.Rates.{own_before}
use Rattle.model.proofs.Lists.{same?, replace-same, replace-other, impossible}
use Rattle.model.proofs.Fit.Sheet.{SheetFit}
use Rattle.model.specs.ExactTicks.{Tally, no_tally, tally_of, tally_before, TakesExactly}
use Rattle.model.proofs.Exchanges.Rates.{MarksOther, plus, Ran, before-start, own-tick, others, exchange-exact, exchange-ends}
use Rattle.model.proofs.History.Steps.{state_after, arrived_at, state-next}
use Rattle.model.proofs.Fit.Running.{running_foremost}
use Rattle.model.proofs.History.Arrive.{JobArrived, same_job, new_job, Arrived, none_runs}
use Rattle.model.proofs.History.Ticks.{arrived-at}
use Rattle.model.proofs.Rates.Own.{other-task, own-none, own_runs, own-waits, tally-none, tally-runs, tally-waits}
use Rattle.model.proofs.Rates.Status.{status-stays}
use Rattle.model.proofs.Rates.Run.{who, what, below_status, marks-at, runs_done, waits-done}

-- task p is in the exchange x of a COMMIT
pub record InCommit (m : Machine) (p : ℕ) (x : Exchange) : Type 0 where
  pub transaction : Transaction
  pub phase : (task_at m.tasks p).job.phase ≡ transacting transaction (committing x)

-- under way: t ticks of its own done and c in them, begun with those entries
pub record Underway (p : ℕ) (es : List Entry) (t : ℕ) (c : Tally) (m : Machine) : Type 0 where
  pub exchange : Exchange
  pub inside : InCommit m p exchange
  pub ran : Ran p es t c m.memory exchange

-- its statement ends it
pub record Ending (p : ℕ) (m : Machine) : Type 0 where
  pub runs : running_of m ≡ running p
  pub exchange : Exchange
  pub inside : InCommit m p exchange
  pub memory : Memory
  pub yes? : Bool
  pub ends : exchange_tick p m.memory exchange exchange.step ≡ ends memory yes?

not-idle : {A : Type 0} {y : Transaction} {x : Exchange} → idle ≡ transacting y (committing x) → A
not-idle e = impossible (cc)

module _ {p : ℕ} {es : List Entry} {t : ℕ} where
  -- RELEASES ARRIVE
  underway_arrived : {c : Tally} {m m' : Machine} → Arrived m m' → Underway p es t c m → Underway p es t c m'
  underway_arrived {m = m} {m'} a k =
      record { exchange = k.exchange; inside = record { transaction = k.inside.transaction; phase = go (a.task p).job }; ran = rw a.memory k.ran }
    where
      go : JobArrived (task_at m.tasks p) (task_at m'.tasks p).job
          → (task_at m'.tasks p).job.phase ≡ transacting k.inside.transaction (committing k.exchange)
      go (same_job e) = rw e k.inside.phase
      go (new_job i e) = not-idle (sym i ∙ k.inside.phase)

  module _ {m : Machine} where
    -- ANOTHER TASK RUNS
    underway_others : {c : Tally} (q : ℕ) → p ≢ q → Underway p es t c m → Underway p es t c (move m (running q))
    unfolding move
    underway_others q ne k = record {
      exchange = k.exchange;
      inside = record {
        transaction = k.inside.transaction;
        phase =
            rw
            (replace-other no_task m.tasks q p
            (counting ticks (statement q m.memory (task_at m.tasks q) (task_at m.tasks q).job.phase).task) ne)
            k.inside.phase;
      };
      ran = others k.ran (status-stays q p ne m.memory (task_at m.tasks q));
    }

    -- TASK p RUNS, in exchange x
    module _ (r : running_of m ≡ running p) {x : Exchange} (i : InCommit m p x) where
      committed-goes : {d : Tally} {m' : Memory} {x' : Exchange} → exchange_tick p m.memory x x.step ≡ goes m' x' → Ran p es (suc t) d m' x'
          → Underway p es (suc t) d (move m (running p))
      unfolding move statement transaction_tick committing_by
      committed-goes {m' = m'} {x'} e n = record {
        exchange = x';
        inside = record {
          transaction = i.transaction;
          phase = rw (
            replace-same no_task m.tasks p (counting ticks (statement p m.memory (task_at m.tasks p) (task_at m.tasks p).job.phase).task)
                (running_foremost r).below,
            i.phase,
            e,
          ) refl;
        };
        ran = rw (i.phase, e) n;
      }

      committing-next : {d : Tally} (o : Exchanged) → exchange_tick p m.memory x x.step ≡ o
          → ((m' : Memory) (x' : Exchange) → o ≡ goes m' x' → Ran p es (suc t) d m' x') → Underway p es (suc t) d (move m (running p)) ⊎ Ending p m
      committing-next (goes m' x') e n = inl (committed-goes e (n m' x' refl))
      committing-next (ends m' yes?) e n = inr (record { runs = r; exchange = x; inside = i; memory = m'; yes? = yes?; ends = e })

-- Start goes on
start-goes : (p : ℕ) (m : Memory) (x : Exchange) → x.step ≡ start
    → exchange_tick p m x x.step ≡ goes (set_status m p 0) (record { entries = x.entries; i = 0; step = test })
unfolding exchange_tick
start-goes p m x e = rw e refl

one-exchange : {m : Machine} {p : ℕ} {x y : Exchange} → InCommit m p x → InCommit m p y → x ≡ y
one-exchange i j = let e = sym i.phase ∙ j.phase in cc

goes-not-ends : {A : Type 0} {m m' : Memory} {x : Exchange} {yes? : Bool} → goes m x ≡ ends m' yes? → A
goes-not-ends e = impossible (cc)

-- FROM ITS START in tick a
module _ {s : Sheet} (c : SheetFit s) (p a : ℕ) {x : Exchange} (runs-first : who c a ≡ running p) (first : InCommit (arrived_at (start_machine s) a) p x)
    (at-start : x.step ≡ start) where
  abbrev own : ℕ → ℕ
  own n = own_before (who c) p a n

  abbrev did : ℕ → Tally
  did n = tally_before (what c p) a n

  -- its marks are on other tasks, and what its statement counts
  marks_in : (n : ℕ) → who c n ≡ running p → {y : Exchange} → InCommit (arrived_at (start_machine s) n) p y → MarksOther p y y.step
  marks_in n r {y} i = marks-at c n p (running_foremost r) y (rw i.phase refl)

  counts_in : (n : ℕ) → who c n ≡ running p → {y : Exchange} → InCommit (arrived_at (start_machine s) n) p y
      → what c p n ≡ tally_of p (arrived_at (start_machine s) n).memory y y.step
  counts_in n r {y} i = runs_done (arrived_at (start_machine s) n) r ∙ rw i.phase refl

  -- it has ended before tick n
  record Ended (n : ℕ) : Type 0 where
    tick : ℕ
    after : a ≤ tick
    before : tick < n
    ending : Ending p (arrived_at (start_machine s) tick)

  start-counts : (m : Memory) → tally_of p m x x.step ≡ no_tally
  unfolding tally_of
  start-counts m = rw at-start refl

  start_ran : (m : Memory) → p < length m.status → Ran p x.entries 1 no_tally (set_status m p 0) (record { entries = x.entries; i = 0; step = test })
  unfolding tally_of
  start_ran m l = own-tick (before-start m) l tt (start-goes p m (exchange_of x.entries) refl)

  started : Underway p x.entries (own (suc a)) (did (suc a)) (state_after (start_machine s) (suc a))
  started =
      let m = arrived_at (start_machine s) a in
      let k : Underway p x.entries 1 no_tally (move m (running p)) = committed-goes runs-first first (start-goes p m.memory x at-start)
      (start_ran m.memory (below_status c a p (running_foremost runs-first))) in
      rw (
        own_runs (who c) p a a (omega arith) runs-first,
        own-none (who c) p a a (omega arith),
        tally-runs (what c p) a a (omega arith) (counts_in a runs-first first ∙ start-counts m.memory)
            ∙ ap (λ (d : Tally). plus d no_tally) (tally-none (what c p) a a (omega arith)),
        state-next (start_machine s) a,
        runs-first,
      ) k

  step : (n : ℕ) → a ≤ n → Underway p x.entries (own n) (did n) (state_after (start_machine s) n)
      → Underway p x.entries (own (suc n)) (did (suc n)) (state_after (start_machine s) (suc n)) ⊎ Ending p (arrived_at (start_machine s) n)
  step n l k = rw (state-next (start_machine s) n) (go (who c n) refl)
    where
      m : Machine
      m = arrived_at (start_machine s) n

      now : Underway p x.entries (own n) (did n) m
      now = underway_arrived (arrived-at (start_machine s) n) k

      go : (r : Running) → who c n ≡ r → Underway p x.entries (own (suc n)) (did (suc n)) (move m r) ⊎ Ending p m
      go nobody e = not-idle (sym (none_runs m e p) ∙ now.inside.phase)
      go (running q) e = same? p q
          (λ z.
          let r : who c n ≡ running p = rw (← z) at e in
          rw (← z, own_runs (who c) p a n l r, tally-runs (what c p) a n l (counts_in n r now.inside))
          (committing-next r now.inside (exchange_tick p m.memory now.exchange now.exchange.step) refl
          (λ m' x' f. own-tick now.ran (below_status c n p (running_foremost r)) (marks_in n r now.inside) f)))
          (λ ne. rw (own-waits (who c) p a n (other-task (who c n) ne e), tally-waits (what c p) a n (waits-done m e ne)) (inl (underway_others q ne now)))

  underway : (n : ℕ) → a < n → Underway p x.entries (own n) (did n) (state_after (start_machine s) n) ⊎ Ended n
  underway zero l = absurd (omega arith)
  underway (suc n) l = same? a n (λ e. inl (rw (← e) started)) (λ ne. go (underway n (omega arith)))
    where
      go : Underway p x.entries (own n) (did n) (state_after (start_machine s) n) ⊎ Ended n
          → Underway p x.entries (own (suc n)) (did (suc n)) (state_after (start_machine s) (suc n)) ⊎ Ended (suc n)
      go (inl k) = next (step n (omega arith) k)
        where
          next : Underway p x.entries (own (suc n)) (did (suc n)) (state_after (start_machine s) (suc n)) ⊎ Ending p (arrived_at (start_machine s) n)
              → Underway p x.entries (own (suc n)) (did (suc n)) (state_after (start_machine s) (suc n)) ⊎ Ended (suc n)
          next (inl k) = inl k
          next (inr e) = inr (record { tick = n; after = omega arith; before = omega arith; ending = e })
      go (inr k) = inr (record { tick = k.tick; after = k.after; before = omega (arith, k.before); ending = k.ending })

  -- while no tick has ended it
  pub commit_fewer : (n : ℕ) → a < n → ((u : ℕ) → a ≤ u → u < n → Ending p (arrived_at (start_machine s) u) → ⊥) → own n < 9 * length x.entries + 4
  commit_fewer n l none = go (underway n l)
    where
      go : Underway p x.entries (own n) (did n) (state_after (start_machine s) n) ⊎ Ended n → own n < 9 * length x.entries + 4
      go (inl w) = exchange-ends w.ran
      go (inr d) = absurd (none d.tick d.after d.before d.ending)

  -- it does not end with its Start
  start-only : {A : Type 0} → Ending p (arrived_at (start_machine s) a) → A
  start-only k =
      goes-not-ends (sym (start-goes p (arrived_at (start_machine s) a).memory x at-start) ∙ (rw (one-exchange k.inside first) at k.ends))

  -- to the first tick that ends an exchange of task p
  pub commit-exact : (l : ℕ) → a ≤ l → (k : Ending p (arrived_at (start_machine s) l))
      → ((u : ℕ) → a ≤ u → u < l → Ending p (arrived_at (start_machine s) u) → ⊥)
      → TakesExactly (length x.entries) (k.yes? ≡ true) (own (suc l)) (did (suc l))
  commit-exact l h k none = same? a l (λ z. start-only (rw (← z) at k)) (λ ne. go (underway l (omega arith)))
    where
      go : Underway p x.entries (own l) (did l) (state_after (start_machine s) l) ⊎ Ended l
          → TakesExactly (length x.entries) (k.yes? ≡ true) (own (suc l)) (did (suc l))
      go (inl w) =
          let now : Underway p x.entries (own l) (did l) (arrived_at (start_machine s) l) = underway_arrived (arrived-at (start_machine s) l) w in
          rw (own_runs (who c) p a l h k.runs, tally-runs (what c p) a l h (counts_in l k.runs now.inside))
          (exchange-exact now.ran (below_status c l p (running_foremost k.runs)) (marks_in l k.runs now.inside)
          (rw (one-exchange k.inside now.inside) at k.ends))
      go (inr d) = absurd (none d.tick d.after d.before d.ending)
