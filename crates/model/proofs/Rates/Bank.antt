-- The reading of a bank word: from its Load on it is under way, in time, until the tick that gives the value.
use Prim.Native.Nat.{ℕ, zero, suc, ◌<◌, ◌≤◌}
use mathlib.Core.Path.{◌≡◌, refl, sym, ◌∙◌}
use mathlib.Core.Logic.{◌≢◌, ◌⊎◌, inl, inr}
use mathlib.Core.List.{List}
use native.Mathlib.Omega.{arith}
use Rattle.model.specs.Sheet.{Sheet}
use Rattle.model.specs.Command.{Access, BodyCommand}
use Rattle.model.specs.Word.{Memory, Reading, loading, looking, Read, reads, gives, cell_of, read_tick}
use Rattle.model.specs.Job.{Transaction, Inner, idle, first, again, transacting, Task, counting, ticks}
use Rattle.model.specs.Transaction.{bank, block_of, first_read, access_tick, again_read, command_tick, transaction_tick}
use Rattle.model.specs.Machine.{Machine, no_task, task_at, Running, nobody, running, running_of, move, statement}
use Rattle.model.specs.Start.{start_machine}
use Rattle.model.specs.Rates.{most_read, own_before, NoneIn, ReadTakes, BankStep, first_load, first_reading, second_reading}
use Rattle.model.proofs.Lists.{same?, replace-same, replace-other, impossible}
use Rattle.model.proofs.Fit.Sheet.{SheetFit}
use Rattle.model.proofs.Exchanges.Rates.{Reads, at_first, goes_on_reading, reading_rate, reading-ends}
use Rattle.model.proofs.History.Steps.{state_after, arrived_at, state-next}
use Rattle.model.proofs.Fit.Running.{running_foremost}
use Rattle.model.proofs.History.Arrive.{JobArrived, same_job, new_job, Arrived, none_runs}
use Rattle.model.proofs.History.Ticks.{arrived-at}
use Rattle.model.proofs.Rates.Own.{other-task, own-none, own_runs, own-waits}
use Rattle.model.proofs.Rates.Run.{who}

-- task t is at step r of a reading for access a
pub record AtBankStep (t : Task) (a : Access) (r : Reading) : Type 0 where
  pub transaction : Transaction
  pub inner : Inner
  pub phase : t.job.phase ≡ transacting transaction inner
  pub does : BankStep transaction t.job.commands inner a r

abbrev pub BankStepIn : Machine → ℕ → Access → Reading → Type 0
BankStepIn m p a r = AtBankStep (task_at m.tasks p) a r

-- under way: t ticks of its own done
pub record Underway (p : ℕ) (a : Access) (t : ℕ) (m : Machine) : Type 0 where
  pub step : Reading
  pub inside : BankStepIn m p a step
  pub read : Reads (bank (block_of a)) t step

-- its statement gives the value
pub record Giving (p : ℕ) (m : Machine) : Type 0 where
  pub runs : running_of m ≡ running p
  pub access : Access
  pub step : Reading
  pub inside : BankStepIn m p access step
  pub value : ℕ
  pub gives : read_tick m.memory (bank (block_of access)) step ≡ gives value

not-idle : {A : Type 0} {y : Transaction} {i : Inner} → idle ≡ transacting y i → A
not-idle e = impossible (cc)

-- a task is at one step of one reading
one-step : {x y : Transaction} {l : List BodyCommand} {i j : Inner} {a b : Access} {r s : Reading} → transacting x i ≡ transacting y j
    → BankStep x l i a r → BankStep y l j b s → (a ≡ b) × (r ≡ s)
one-step e (first_load a k c u) (first_load b k' d w) = let z = sym c ∙ d in (cc, refl)
one-step e (first_load a k c u) (first_reading b s) = impossible (cc)
one-step e (first_load a k c u) (second_reading b v s) = impossible (cc)
one-step e (first_reading a r) (first_load b k d w) = impossible (cc)
one-step e (first_reading a r) (first_reading b s) = (cc, cc)
one-step e (first_reading a r) (second_reading b v s) = impossible (cc)
one-step e (second_reading a v r) (first_load b k d w) = impossible (cc)
one-step e (second_reading a v r) (first_reading b s) = impossible (cc)
one-step e (second_reading a v r) (second_reading b v' s) = (cc, cc)

one-reading : {t : Task} {a b : Access} {r s : Reading} → AtBankStep t a r → AtBankStep t b s → (a ≡ b) × (r ≡ s)
one-reading h k = one-step (sym h.phase ∙ k.phase) h.does k.does

-- Load goes on
load_goes : (m : Memory) (c : ℕ) → read_tick m c loading ≡ reads (looking (cell_of m c))
unfolding read_tick
load_goes m c = refl

loaded_word : (s : Reading) (m : Memory) (c : ℕ) → read_tick m c loading ≡ reads s → looking (cell_of m c) ≡ s
loaded_word s m c e = let z = sym (load_goes m c) ∙ e in cc

-- a tick that goes on leaves the task at the next step
module _ (p : ℕ) (m : Memory) (t : Task) (x : Transaction) where
  step-next : {i : Inner} {a : Access} {r s : Reading} → BankStep x t.job.commands i a r → read_tick m (bank (block_of a)) r ≡ reads s
      → AtBankStep (transaction_tick p m t x i).task a s
  unfolding transaction_tick command_tick access_tick first_read again_read
  step-next {s = s} (first_load a k c u) e =
      rw (← loaded_word s m (bank (block_of a)) e, c, u) (record { transaction = x; inner = first a _; phase = refl; does = first_reading a _ })
  step-next {s = s} (first_reading a r) e = rw e (record { transaction = x; inner = first a s; phase = refl; does = first_reading a s })
  step-next {s = s} (second_reading a v r) e = rw e (record { transaction = x; inner = again a v s; phase = refl; does = second_reading a v s })

ticked-at : {t : Task} {a : Access} {r : Reading} → AtBankStep t a r → AtBankStep (counting ticks t) a r
ticked-at h = record { transaction = h.transaction; inner = h.inner; phase = h.phase; does = h.does }

-- task q after its statement
abbrev stated : Machine → ℕ → Task
stated m q = counting ticks (statement q m.memory (task_at m.tasks q) (task_at m.tasks q).job.phase).task

module _ {p : ℕ} {a : Access} {t : ℕ} where
  -- RELEASES ARRIVE
  underway_arrived : {m m' : Machine} → Arrived m m' → Underway p a t m → Underway p a t m'
  underway_arrived {m} {m'} h k = record { step = k.step; inside = go (h.task p).job; read = k.read }
    where
      go : JobArrived (task_at m.tasks p) (task_at m'.tasks p).job → BankStepIn m' p a k.step
      go (same_job e) = record {
        transaction = k.inside.transaction;
        inner = k.inside.inner;
        phase = rw e k.inside.phase;
        does = rw e k.inside.does;
      }
      go (new_job i e) = not-idle (sym i ∙ k.inside.phase)

  module _ (m : Machine) where
    -- ANOTHER TASK RUNS
    underway_others : (q : ℕ) → p ≢ q → Underway p a t m → Underway p a t (move m (running q))
    unfolding move
    underway_others q ne k = record {
      step = k.step;
      inside = rw (replace-other no_task m.tasks q p (stated m q) ne) k.inside;
      read = k.read;
    }

    -- TASK p RUNS, at step r
    module _ (w : running_of m ≡ running p) {r : Reading} (i : BankStepIn m p a r) (k : Reads (bank (block_of a)) t r) where
      read_goes : (s : Reading) → read_tick m.memory (bank (block_of a)) r ≡ reads s → Underway p a (suc t) (move m (running p))
      unfolding move statement
      read_goes s e = record {
        step = s;
        inside = rw (replace-same no_task m.tasks p (stated m p) (running_foremost w).below, i.phase)
            (ticked-at (step-next p m.memory (task_at m.tasks p) i.transaction i.does e));
        read = goes_on_reading m.memory k e;
      }

      read_next : (o : Read) → read_tick m.memory (bank (block_of a)) r ≡ o → Underway p a (suc t) (move m (running p)) ⊎ Giving p m
      read_next (reads s) e = inl (read_goes s e)
      read_next (gives v) e = inr (record { runs = w; access = a; step = r; inside = i; value = v; gives = e })

reads-not-gives : {A : Type 0} {s : Reading} {v : ℕ} → reads s ≡ gives v → A
reads-not-gives e = impossible (cc)

-- FROM ITS LOAD in tick u
module _ {s : Sheet} (c : SheetFit s) (p u : ℕ) {a : Access} (runs-first : who c u ≡ running p)
    (first-in : BankStepIn (arrived_at (start_machine s) u) p a loading) where
  abbrev own : ℕ → ℕ
  own n = own_before (who c) p u n

  abbrev Going : ℕ → Type 0
  Going n = Underway p a (own n) (state_after (start_machine s) n)

  abbrev GivingIn : ℕ → Type 0
  GivingIn n = Giving p (arrived_at (start_machine s) n)

  -- it has given its value before tick n
  record Given (n : ℕ) : Type 0 where
    tick : ℕ
    after : u ≤ tick
    before : tick < n
    giving : GivingIn tick

  started : Going (suc u)
  started =
      let m = arrived_at (start_machine s) u in
      let b = bank (block_of a) in
      let k : Underway p a 1 (move m (running p)) =
      read_goes m runs-first first-in at_first (looking (cell_of m.memory b)) (load_goes m.memory b) in
      rw (own_runs (who c) p u u (omega arith) runs-first, own-none (who c) p u u (omega arith), state-next (start_machine s) u, runs-first) k

  step : (n : ℕ) → u ≤ n → Going n → Going (suc n) ⊎ GivingIn n
  step n l k = rw (state-next (start_machine s) n) (go (who c n) refl)
    where
      m : Machine
      m = arrived_at (start_machine s) n

      now : Underway p a (own n) m
      now = underway_arrived (arrived-at (start_machine s) n) k

      own-next : who c n ≡ running p → Underway p a (suc (own n)) (move m (running p)) ⊎ Giving p m
      own-next r = read_next m r now.inside now.read (read_tick m.memory (bank (block_of a)) now.step) refl

      go : (r : Running) → who c n ≡ r → Underway p a (own (suc n)) (move m r) ⊎ Giving p m
      go nobody e = not-idle (sym (none_runs m e p) ∙ now.inside.phase)
      go (running q) e = same? p q
          (λ z. rw (← z, own_runs (who c) p u n l (rw (← z) at e)) (own-next (rw (← z) at e)))
          (λ ne. rw (own-waits (who c) p u n (other-task (who c n) ne e)) (inl (underway_others m q ne now)))

  underway : (n : ℕ) → u < n → Going n ⊎ Given n
  underway zero l = absurd (omega arith)
  underway (suc n) l = same? u n (λ e. inl (rw (← e) started)) (λ ne. go (underway n (omega arith)))
    where
      next : Going (suc n) ⊎ GivingIn n → Going (suc n) ⊎ Given (suc n)
      next (inl k) = inl k
      next (inr e) = inr (record { tick = n; after = omega arith; before = omega arith; giving = e })

      go : Going n ⊎ Given n → Going (suc n) ⊎ Given (suc n)
      go (inl k) = next (step n (omega arith) k)
      go (inr k) = inr (record { tick = k.tick; after = k.after; before = omega (arith, k.before); giving = k.giving })

  -- while no tick has given the value
  pub bank_fewer : (n : ℕ) → u < n → NoneIn GivingIn u n → own n < most_read
  bank_fewer n l none = go (underway n l)
    where
      go : Going n ⊎ Given n → own n < most_read
      go (inl w) = reading-ends w.read
      go (inr d) = absurd (none d.tick d.after d.before d.giving)

  -- its Load does not give the value
  load-only : {A : Type 0} → GivingIn u → A
  load-only k =
      let z : k.step ≡ loading = (one-reading k.inside first-in).1 in
      reads-not-gives (sym (load_goes (arrived_at (start_machine s) u).memory (bank (block_of k.access))) ∙ (rw z at k.gives))

  -- to the first tick in which task p gives the value of a reading
  pub bank_rate : (l : ℕ) → u ≤ l → GivingIn l → NoneIn GivingIn u l → ReadTakes (own (suc l))
  bank_rate l h k none = same? u l (λ z. load-only (rw (← z) at k)) (λ ne. go (underway l (omega arith)))
    where
      go : Going l ⊎ Given l → ReadTakes (own (suc l))
      go (inl w) =
          let m = arrived_at (start_machine s) l in
          let now : Underway p a (own l) m = underway_arrived (arrived-at (start_machine s) l) w in
          let one = one-reading k.inside now.inside in
          rw (own_runs (who c) p u l h k.runs) (reading_rate now.read m.memory k.value (rw (one.0, one.1) at k.gives))
      go (inr d) = absurd (none d.tick d.after d.before d.giving)
