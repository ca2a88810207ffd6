-- Demand 3: every run of an accepted sheet, with whatever limit, is a sequence of whole operations.
use Prim.Native.Nat.{ℕ, suc}
use mathlib.Core.Path.{◌≡◌, refl, sym, ◌∙◌, ap, subst}
use mathlib.Core.List.{List}
use Rattle.model.specs.Sheet.{Sheet, accepted, verdict}
use Rattle.model.specs.Word.{Memory}
use Rattle.model.specs.Machine.{Machine, Running, running, running_of, move}
use Rattle.model.specs.Start.{start_machine}
use Rattle.model.specs.Claim.{WholeOperations}
use Rattle.model.proofs.Fit.Sheet.{SheetFit}
use Rattle.model.proofs.Fit.Accepted.{accepted_fit}
use Rattle.model.proofs.Transactions.Machine.{statement_of}
use Rattle.model.proofs.History.Steps.{state_after, arrived_at, history_after, state-next}
use Rattle.model.proofs.Fit.Running.{running_foremost}
use Rattle.model.proofs.History.Ticks.{arrived-at, arrived-now, arrived_linked}
use Rattle.model.proofs.History.Start.{started}
use Rattle.model.proofs.History.Justified.{Justified}
use Rattle.model.proofs.History.Theorem.{contents_after, settled_by, JustifiedRun, whole}
use Rattle.model.proofs.Demand3.Always.{holds, holds_at}
use Rattle.model.proofs.Demand3.Justify.{justified}

move-memory : (m : Machine) (p : ℕ) → (move m (running p)).memory ≡ (statement_of p m.memory m.tasks).memory
unfolding move
move-memory m p = refl

module _ {s : Sheet} (c : SheetFit s) where
  -- the shared memory after t ticks
  abbrev memories : ℕ → Memory
  memories t = (state_after (start_machine s) t).memory

  memory-before : (t : ℕ) → memories (arrived_at (start_machine s) t).now ≡ (arrived_at (start_machine s) t).memory
  memory-before t = ap memories (arrived-now (started c) t) ∙ sym (arrived-at (start_machine s) t).memory

  memory-after : (t p : ℕ) → running_of (arrived_at (start_machine s) t) ≡ running p
      → memories (suc (arrived_at (start_machine s) t).now)
      ≡ (statement_of p (arrived_at (start_machine s) t).memory (arrived_at (start_machine s) t).tasks).memory
  memory-after t p e =
      ap (λ (u : ℕ). memories (suc u)) (arrived-now (started c) t)
      ∙ ap (λ (m : Machine). m.memory) (state-next (start_machine s) t)
      ∙ ap (λ (r : Running). (move (arrived_at (start_machine s) t) r).memory) e
      ∙ move-memory (arrived_at (start_machine s) t) p

  pub justified_run : JustifiedRun s (start_machine s)
  justified_run = record {
    justified = λ t p e.
        subst
        (λ (u : ℕ). Justified (contents_after s (start_machine s)) u p (history_after (start_machine s) t) (settled_by (arrived_at (start_machine s) t) p))
        (arrived-now (started c) t)
        (justified c memories (arrived_linked (started c) t) (holds_at c t (holds c t)) p (running_foremost e) (memory-before t)
        (memory-after t p e));
  }

-- DEMAND 3
pub demand_3 : (sheet : List ℕ) (limit : ℕ) → verdict sheet ≡ accepted → WholeOperations sheet limit
demand_3 sheet limit e = let c = accepted_fit sheet e in whole sheet limit c (justified_run c)
