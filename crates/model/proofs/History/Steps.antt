-- A run and its history in step: both are so many ticks one after the other.
use Prim.Native.Nat.{ℕ, zero, suc, ◌+◌, ◌≤◌}
use mathlib.Core.Bool.{true, false}
use mathlib.Core.Path.{◌≡◌, refl}
use native.Mathlib.Omega.{arith}
use Rattle.model.specs.Machine.{Machine, running_of, move, move_any, tick, over, run_by, run, enter, beside_by, beside}
use Rattle.model.specs.History.{History, no_history, observed, observed_tick, history_of}
use Rattle.model.proofs.Lists.{test?}

-- the machine after t ticks, whether or not the run has stopped before
unfoldable pub state_after : Machine → ℕ → Machine
unfolding tick
state_after m zero = m
state_after m (suc t) = tick (state_after m t)

-- the machine in tick t, before its statement
unfoldable pub arrived_at : Machine → ℕ → Machine
unfolding state_after enter
arrived_at m t = enter (state_after m t)

-- what an observer has after t ticks, who had a at first
unfoldable pub seen_after : {A : Type 0} → (Machine → A → A) → A → Machine → ℕ → A
unfolding state_after
seen_after see a m zero = a
seen_after see a m (suc t) = see (state_after m t) (seen_after see a m t)

unfoldable pub history_after : Machine → ℕ → History
unfolding seen_after observed_tick
history_after m t = seen_after observed_tick no_history m t

-- one tick more: the task that runs moves, and the history observes it
pub state-next : (m : Machine) (t : ℕ) → state_after m (suc t) ≡ move (arrived_at m t) (running_of (arrived_at m t))
unfolding state_after tick move_any arrived_at
state-next m t = refl

pub history-next : (m : Machine) (t : ℕ) → history_after m (suc t) ≡ observed (arrived_at m t) (running_of (arrived_at m t)) (history_after m t)
unfolding history_after seen_after observed_tick arrived_at
history-next m t = refl

-- where n more ticks of the run stop, k being done, for any observer
pub record Stops {A : Type 0} (see : Machine → A → A) (a : A) (m : Machine) (n k : ℕ) : Type 0 where
  pub ticks : ℕ
  pub most : ticks ≤ k + n
  pub state : run n (state_after m k) ≡ state_after m ticks
  pub seen : beside see n (state_after m k) (seen_after see a m k) ≡ seen_after see a m ticks

module _ {A : Type 0} (see : Machine → A → A) (a : A) (m : Machine) where
  pub stops : (n k : ℕ) → Stops see a m n k
  unfolding run run_by beside beside_by state_after seen_after
  stops zero k = record { ticks = k; most = omega arith; state = refl; seen = refl }
  stops (suc n) k = test? (over (state_after m k)) (λ e. done e) (λ e. goes e (stops n (suc k)))
    where
      done : over (state_after m k) ≡ true → Stops see a m (suc n) k
      done e = record { ticks = k; most = omega arith; state = rw e refl; seen = rw e refl }

      goes : over (state_after m k) ≡ false → Stops see a m n (suc k) → Stops see a m (suc n) k
      goes e s = record { ticks = s.ticks; most = omega (arith, s.most); state = rw e s.state; seen = rw e s.seen }

-- THE RUN with a limit stands after so many ticks, and so does its history
pub record Stopped (limit : ℕ) (m : Machine) : Type 0 where
  pub ticks : ℕ
  pub most : ticks ≤ limit
  pub state : run limit m ≡ state_after m ticks
  pub history : history_of limit m ≡ history_after m ticks

pub stopped : (limit : ℕ) (m : Machine) → Stopped limit m
unfolding history_of state_after history_after seen_after
stopped limit m =
    let s = stops observed_tick no_history m limit 0 in
    record { ticks = s.ticks; most = omega (arith, s.most); state = s.state; history = s.seen }
