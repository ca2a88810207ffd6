-- It holds at the start of an accepted sheet's run, and after every tick.
use Prim.Native.Nat.{ℕ, zero, suc, ◌-◌}
use mathlib.Core.Bool.{true}
use mathlib.Core.Path.{◌≡◌, refl, sym, ◌∙◌, ap, subst}
use mathlib.Core.List.{List, [], ◌∷◌, map}
use lib.ListN.{length, replicate}
use Rattle.model.specs.Lists.{at}
use Rattle.model.specs.Command.{Block}
use Rattle.model.specs.Sheet.{Sheet}
use Rattle.model.specs.Word.{Word, Memory, cell_of, current_of, fresh_word}
use Rattle.model.specs.Job.{idle}
use Rattle.model.specs.Machine.{Machine, task_at, Running, nobody, running, running_of, move}
use Rattle.model.specs.Start.{filled, banks_from, start_machine}
use Rattle.model.specs.History.{History, no_history, observed}
use Rattle.model.proofs.Lists.{at_map}
use Rattle.model.proofs.Fit.Elements.{append_every, replicate-every}
use Rattle.model.proofs.Fit.Sheet.{SheetFit}
use Rattle.model.proofs.Fit.Machine.{Fit}
use Rattle.model.proofs.Fit.Releases.{enter_fit}
use Rattle.model.proofs.Fit.Tick.{tick_fit}
use Rattle.model.proofs.Fit.Start.{start_fit}
use Rattle.model.proofs.Exchanges.Act.{free, act_at}
use Rattle.model.proofs.Exchanges.Preserve.{invariant_at-first}
use Rattle.model.proofs.Exchanges.Ground.{past-at-first}
use Rattle.model.proofs.Transactions.Start.{start_transactions}
use Rattle.model.proofs.History.Steps.{state_after, arrived_at, history_after, state-next, history-next}
use Rattle.model.proofs.Fit.Running.{running_foremost}
use Rattle.model.proofs.History.Arrive.{none_runs}
use Rattle.model.proofs.History.Ticks.{arrived-at, arrived-now, arrived_linked}
use Rattle.model.proofs.History.Start.{started, first_store, word_cells, bank_cells, start-cells, start-memory}
use Rattle.model.proofs.Demand3.Acts.{acts_of, act-at}
use Rattle.model.proofs.Demand3.State.{Holds, invariant_again, holds_arrived, holds_runs}
use Rattle.model.proofs.Demand3.Latest.{latest_operation}

-- AN IDLE TICK
module _ {s : Sheet} {values : ℕ → ℕ → ℕ} {u : ℕ} {m : Machine} {h : History} (none : (p : ℕ) → (task_at m.tasks p).job.phase ≡ idle)
    (k : Holds s values u m h) where
  all_free : (p : ℕ) → act_at (acts_of m.tasks) p ≡ free
  all_free p = act-at m.tasks p ∙ rw (none p)

  pub holds_idle : {h' : History} → Fit s (move m nobody) → Holds s values (suc u) (move m nobody) h'
  unfolding move
  holds_idle f = record {
    fit = f;
    invariant = invariant_again (acts_of m.tasks) (λ r b. absurd (b (all_free r))) k.invariant;
    past = record { pairs = λ p. []; past = past-at-first (acts_of m.tasks) all_free };
    transactions = record { owners = k.transactions.owners; task = λ p l. rw (none p) tt };
  }

-- THE START
-- every cell is valid
abbrev Valid : Word → Type 0
Valid w = w.valid ≡ true

valid-filled : (n : ℕ) (l : List Word) → ((c : ℕ) → Valid (at (fresh_word 0) l c)) → (c : ℕ) → Valid (at (fresh_word 0) (filled n (fresh_word 0) l) c)
unfolding filled
valid-filled n l f =
    append_every (fresh_word 0) Valid l (replicate (n - length l) (fresh_word 0)) f
    (replicate-every (fresh_word 0) Valid (n - length l) (fresh_word 0) refl refl)

valid_banks : (store : ℕ) (bs : List Block) (c : ℕ) → Valid (at (fresh_word 0) (banks_from store bs) c)
unfolding at banks_from
valid_banks store [] c = refl
valid_banks store (b ∷ bs) zero = refl
valid_banks store (b ∷ bs) (suc c) = valid_banks (suc store) bs c

start-valid : (s : Sheet) (c : ℕ) → (cell_of (start_machine s).memory c).valid ≡ true
start-valid s c =
    rw (start-memory s, start-cells s)
    (append_every (fresh_word 0) Valid (word_cells s) (bank_cells s)
    (valid-filled 32 (map fresh_word s.words) (λ w. rw (at_map fresh_word 0 s.words w) refl))
    (valid-filled 16 (banks_from (first_store s) s.blocks) (valid_banks (first_store s) s.blocks)) c)

-- EVERY TICK
module _ {s : Sheet} (c : SheetFit s) where
  -- the current value of a cell after t ticks
  abbrev pub value_after : ℕ → ℕ → ℕ
  value_after t a = current_of (state_after (start_machine s) t).memory a

  holds_start : Holds s value_after 0 (start_machine s) no_history
  holds_start =
      let none : (p : ℕ) → act_at (acts_of (start_machine s).tasks) p ≡ free = λ p. act-at (start_machine s).tasks p ∙ rw ((started c).idle p) in
      record {
        fit = start_fit c;
        invariant = invariant_at-first (start_machine s).memory (acts_of (start_machine s).tasks) (start-valid s) none;
        past = record { pairs = λ p. []; past = past-at-first (acts_of (start_machine s).tasks) none };
        transactions = start_transactions c (latest_operation no_history);
      }

  -- tick t, its releases having arrived
  module _ (t : ℕ) (k : Holds s value_after t (state_after (start_machine s) t) (history_after (start_machine s) t)) where
    fit_arrived : Fit s (arrived_at (start_machine s) t)
    unfolding arrived_at
    fit_arrived = enter_fit c k.fit

    fit_next : Fit s (state_after (start_machine s) (suc t))
    unfolding state_after
    fit_next = tick_fit c k.fit

    pub holds_at : Holds s value_after (arrived_at (start_machine s) t).now (arrived_at (start_machine s) t) (history_after (start_machine s) t)
    holds_at =
        subst (λ (u : ℕ). Holds s value_after u (arrived_at (start_machine s) t) (history_after (start_machine s) t)) (sym (arrived-now (started c) t))
        (holds_arrived fit_arrived (arrived-at (start_machine s) t) k)

    pub value-now : (a : ℕ) → value_after (arrived_at (start_machine s) t).now a ≡ current_of (arrived_at (start_machine s) t).memory a
    value-now a =
        ap (λ (u : ℕ). value_after u a) (arrived-now (started c) t)
        ∙ ap (λ (n : Memory). current_of n a) (sym (arrived-at (start_machine s) t).memory)

    step : (r : Running) → running_of (arrived_at (start_machine s) t) ≡ r → Fit s (move (arrived_at (start_machine s) t) r)
        → Holds s value_after (suc (arrived_at (start_machine s) t).now) (move (arrived_at (start_machine s) t) r)
        (observed (arrived_at (start_machine s) t) r (history_after (start_machine s) t))
    step nobody e f = holds_idle (none_runs (arrived_at (start_machine s) t) e) holds_at f
    step (running p) e f = holds_runs c (arrived_linked (started c) t) holds_at value-now p (running_foremost e) f

    holds_next : Holds s value_after (suc t) (state_after (start_machine s) (suc t)) (history_after (start_machine s) (suc t))
    holds_next =
        let n = arrived_at (start_machine s) t in
        let f : Fit s (move n (running_of n)) = subst (λ (z : Machine). Fit s z) (state-next (start_machine s) t) fit_next in
        subst (λ (z : Machine). Holds s value_after (suc t) z (history_after (start_machine s) (suc t))) (sym (state-next (start_machine s) t))
        (subst (λ (z : History). Holds s value_after (suc t) (move n (running_of n)) z) (sym (history-next (start_machine s) t))
        (subst (λ (u : ℕ). Holds s value_after (suc u) (move n (running_of n)) (observed n (running_of n) (history_after (start_machine s) t)))
        (arrived-now (started c) t)
        (step (running_of n) refl f)))

  pub holds : (t : ℕ) → Holds s value_after t (state_after (start_machine s) t) (history_after (start_machine s) t)
  unfolding state_after history_after
  holds zero = holds_start
  holds (suc t) = holds_next t (holds t)
