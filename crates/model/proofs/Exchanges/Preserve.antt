-- The theorem of the exchange layer: the invariant holds at first, and every statement of the running task keeps it.
use Prim.Native.Nat.{ℕ, ◌<◌}
use mathlib.Core.Bool.{true}
use mathlib.Core.Path.{◌≡◌, refl, sym, subst}
use mathlib.Core.List.{List}
use native.Mathlib.Omega.{arith}
use Rattle.model.specs.Lists.{replace}
use Rattle.model.specs.Word.{Word, Memory, memory, cell_of, set_status, Reading, looking, Read, reads, gives, read_tick}
use Rattle.model.specs.Exchange.{Entry, Step, start, test, Exchange, Exchanged, exchange_tick}
use Rattle.model.proofs.Exchanges.Act.{Act, free, reading, exchanging, act_at, act_by, act_of, act_after, started?, memory_after, Quiet, Distinct}
use Rattle.model.proofs.Exchanges.Invariant.{valid, Invariant, Situation, Room}
use Rattle.model.proofs.Exchanges.Outcome.{Outcome, outcome}
use Rattle.model.proofs.Exchanges.Frame.{frame-none}
use Rattle.model.proofs.Exchanges.Kept.{quiet_moved, start-moved, read-loaded, act_read, reading-moved, exchange-moved}
use Rattle.model.proofs.Exchanges.Standing.{stays, GivesBack, AllInstalled, Upholds, invariant_after}
use Rattle.model.proofs.Exchanges.Upheld.{exchange_upholds}

-- all cells valid and all tasks free
pub invariant_at-first : {below : ℕ → ℕ → Type 0} (m : Memory) (acts : List Act) → ((c : ℕ) → (cell_of m c).valid ≡ true)
    → ((p : ℕ) → act_at acts p ≡ free) → Invariant below m acts
invariant_at-first m acts v f = record { contents = λ c. valid (v c); knows = λ p. rw (f p) tt; standing = λ p. rw (f p) tt }

-- block stores are no matter of this layer
pub stores-kept : {below : ℕ → ℕ → Type 0} {m : Memory} {acts : List Act} (stores : List (List ℕ)) → Invariant below m acts
    → Invariant below (memory m.cells m.status m.saves stores) acts
stores-kept stores I = record { contents = I.contents; knows = I.knows; standing = I.standing }

-- A TASK IN NO EXCHANGE
module _ {below : ℕ → ℕ → Type 0} {m : Memory} {acts : List Act} {p : ℕ} {v₀ : Act} (S : Situation below m acts p v₀) (q : Quiet v₀) where
  pub quiet_upholds : {n : Memory} (v : Act) → n.cells ≡ m.cells → AllInstalled n.cells n.status p v → Upholds below m n p v₀ v
  quiet_upholds {n} v ec h = record { content = λ c u L k. stays (rw ec k); cover = λ u L. none v₀ u q; own = h }
    where
      none : (y : Act) (u : Word) → Quiet y → GivesBack y n v u
      none free u q = tt
      none (reading c r) u q = tt
      none (exchanging x) u q = absurd q

  -- the task touches no cell, or its reading has ended
  pub free_kept : Invariant below m (replace acts p free)
  free_kept = invariant_after S (quiet_moved S q free refl (frame-none p m) tt) (quiet_upholds free refl tt)

  pub load_kept : (c : ℕ) → Invariant below m (replace acts p (reading c (looking (cell_of m c))))
  load_kept c = invariant_after S (read-loaded S q c) (quiet_upholds _ refl tt)

  pub start-kept : (es : List Entry) → Distinct es
      → Invariant below (set_status m p 0) (replace acts p (exchanging (record { entries = es; i = 0; step = test })))
  start-kept es d = invariant_after S (start-moved S q es d) (quiet_upholds _ refl (λ k st e (h : e < 0). absurd (omega arith)))

module _ {below : ℕ → ℕ → Type 0} {m : Memory} {acts : List Act} {p : ℕ} where
  pub reading-kept : (c : ℕ) (r : Reading) → Situation below m acts p (reading c r) → Invariant below m (replace acts p (act_read c (read_tick m c r)))
  reading-kept c r S = invariant_after S (reading-moved r S) (quiet_upholds S tt (act_read c (read_tick m c r)) refl (none (read_tick m c r)))
    where
      none : (o : Read) → AllInstalled m.cells m.status p (act_read c o)
      none (reads s) = tt
      none (gives v) = tt

  -- A TASK IN AN EXCHANGE
  pub going_kept : {x : Exchange} {o : Exchanged} → Situation below m acts p (exchanging x) → Room m p x.entries → Outcome p m x o
      → Invariant below (memory_after o) (replace acts p (act_after o))
  going_kept S R o = invariant_after S (exchange-moved S R o) (exchange_upholds S R o)

  -- every tick of an exchange, Start too
  pub exchange-kept : (x : Exchange) → Situation below m acts p (act_of x) → Room m p x.entries → (x.step ≡ start → Distinct x.entries)
      → Invariant below (memory_after (exchange_tick p m x x.step)) (replace acts p (act_after (exchange_tick p m x x.step)))
  unfolding exchange_tick
  exchange-kept x S R d = started? x
      (λ s. subst (λ (z : Step). Invariant below (memory_after (exchange_tick p m x z)) (replace acts p (act_after (exchange_tick p m x z)))) (sym s)
      (at-start (subst (λ (z : Step). Situation below m acts p (act_by z x)) s S) (d s)))
      (λ k. going_kept (rw k at S) R (outcome p m x))
    where
      at-start : Situation below m acts p free → Distinct x.entries
          → Invariant below (memory_after (exchange_tick p m x start)) (replace acts p (act_after (exchange_tick p m x start)))
      at-start S d = start-kept S tt x.entries d
