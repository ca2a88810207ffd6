-- The theorem of the grounds: every statement of the running task keeps them, what a reading gives was seen, and a no has its grounds.
use Prim.Native.Nat.{ℕ, ◌<◌}
use mathlib.Core.Bool.{Bool, true, false}
use mathlib.Core.Path.{◌≡◌, refl, sym, subst}
use mathlib.Core.Logic.{◌≢◌, inl}
use mathlib.Core.List.{List}
use native.Mathlib.Omega.{arith}
use Rattle.model.specs.Lists.{replace}
use Rattle.model.specs.Word.{Word, Memory, cell_of, status_of, set_status, saved, own, Reading}
use Rattle.model.specs.Word.{loading, looking, fetching, gives, read_tick, looking_by}
use Rattle.model.specs.Exchange.{Entry, Step, start, test, Exchange, Exchanged, ends, exchange_tick}
use Rattle.model.proofs.Lists.{replace-same, replace-other, impossible}
use Rattle.model.proofs.Exchanges.Act.{Act, free, reading, exchanging, act_by, act_of, started?, act_after, memory_after, Quiet, Distinct}
use Rattle.model.proofs.Exchanges.Invariant.{ValidOrHeld, Knows, Situation, Room}
use Rattle.model.proofs.Exchanges.Words.{current-own, current-other}
use Rattle.model.proofs.Exchanges.Outcome.{outcome}
use Rattle.model.proofs.Exchanges.Frame.{frame-none, Moved}
use Rattle.model.proofs.Exchanges.Kept.{quiet_moved, start-moved, read-loaded, act_read, reading-moved, exchange-moved}
use Rattle.model.proofs.Fit.Exchange.{SamePairs}
use Rattle.model.proofs.Exchanges.Ground.{Knowledge, GroundsOf, ReplacedBy, there, PastAct, Past, Passes, SeesNow}
use Rattle.model.proofs.Exchanges.GroundFrame.{past_after}
use Rattle.model.proofs.Exchanges.GroundKept.{exchange_upholds_past, no_grounds, NoGrounds}

-- A TASK IN NO EXCHANGE
module _ {below : ℕ → ℕ → Type 0} {m : Memory} {acts : List Act} {p : ℕ} {v₀ : Act} (S : Situation below m acts p v₀) (q : Quiet v₀) {H H' : Knowledge}
    (T : Passes below acts p H H') (P : Past below H m acts) where
  pub quiet_past : {n : Memory} (v : Act) → Moved below m n acts p v → n.cells ≡ m.cells → ((r : ℕ) → r ≢ p → status_of n r ≡ status_of m r)
      → PastAct below H' n.cells n.status n.saves (replace acts p v) p v → Past below H' n (replace acts p v)
  quiet_past v M ec st own =
      past_after S T M
      (record { content = λ r c w B b o h. there (rw ec h); cover = λ r c w B b C. absurd (none v₀ c w q C); marked = λ r ne. inl (st r ne); own = own }) P
    where
      none : (y : Act) (c : ℕ) (w : Word) → Quiet y → ReplacedBy y c w → ⊥
      none free c w q C = C
      none (reading d r) c w q C = C
      none (exchanging x) c w q C = q

  -- the task touches no cell, or its reading has ended
  pub free_past : Past below H' m (replace acts p free)
  free_past = quiet_past free (quiet_moved S q free refl (frame-none p m) tt) refl (λ r ne. refl) tt

  pub load_past : SeesNow m p H' → (c : ℕ) → Past below H' m (replace acts p (reading c (looking (cell_of m c))))
  load_past now c = quiet_past (reading c (looking (cell_of m c))) (read-loaded S q c) refl (λ r ne. refl) (now c)

  pub start-past : (es : List Entry) → Distinct es → SamePairs es (H'.pairs p)
      → Past below H' (set_status m p 0) (replace acts p (exchanging (record { entries = es; i = 0; step = test })))
  start-past es d Q =
      quiet_past (exchanging (record { entries = es; i = 0; step = test })) (start-moved S q es d) refl (λ r ne. replace-other 0 m.status p r 0 ne)
      (record {
        pairs = Q;
        counts = λ e l (h : e < 0). absurd (omega arith);
        grounds = λ u ne. absurd (ne (replace-same 0 m.status p 0 (rw S.sizes S.task)));
        at-step = tt;
      })

-- READINGS
module _ {below : ℕ → ℕ → Type 0} {m : Memory} {acts : List Act} {p : ℕ} (c : ℕ) {H H' : Knowledge} (T : Passes below acts p H H')
    (now : SeesNow m p H') (P : Past below H m acts) where
  seen_before : {r : Reading} → Situation below m acts p (reading c r) → (v : ℕ) → H.seen p c v → H'.seen p c v
  seen_before S v h = T.seen p c v (λ f. impossible (cc S.act)) h

  mine_past : {r : Reading} → Situation below m acts p (reading c r) → PastAct below H m.cells m.status m.saves acts p (reading c r)
  mine_past S = subst (λ (v : Act). PastAct below H m.cells m.status m.saves acts p v) S.act (P.knows p)

  looked_past : (w : Word) → Situation below m acts p (reading c (looking w)) → (b : Bool) → own m.status w ≡ b
      → PastAct below H' m.cells m.status m.saves (replace acts p (act_read c (looking_by b w))) p (act_read c (looking_by b w))
  unfolding looking_by
  looked_past w S true e = tt
  looked_past w S false e = seen_before S _ (mine_past S)

  read_past : (r : Reading) → Situation below m acts p (reading c r)
      → PastAct below H' m.cells m.status m.saves (replace acts p (act_read c (read_tick m c r))) p (act_read c (read_tick m c r))
  unfolding read_tick
  read_past loading S = now c
  read_past (looking w) S = looked_past w S (own m.status w) refl
  read_past (fetching w) S = tt

  pub reading-past : (r : Reading) → Situation below m acts p (reading c r) → Past below H' m (replace acts p (act_read c (read_tick m c r)))
  reading-past r S = quiet_past S tt T P (act_read c (read_tick m c r)) (reading-moved r S) refl (λ r ne. refl) (read_past r S)

  looked_gives : (w : Word) (v : ℕ) → Situation below m acts p (reading c (looking w)) → (b : Bool) → own m.status w ≡ b → looking_by b w ≡ gives v
      → H'.seen p c v
  unfolding looking_by
  looked_gives w v S true e g =
      let k : w.value ≡ v = cc in
      rw (← k, ← (current-own m.status m.saves w e)) (seen_before S _ (mine_past S))
  looked_gives w v S false e g = impossible (cc)

  -- 3. the value that a reading gives was the cell's current value at the tick of its Load
  pub reading-gives : (r : Reading) (v : ℕ) → Situation below m acts p (reading c r) → read_tick m c r ≡ gives v → H'.seen p c v
  unfolding read_tick
  reading-gives loading v S g = impossible (cc)
  reading-gives (looking w) v S g = looked_gives w v S (own m.status w) refl g
  reading-gives (fetching w) v S g =
      let e : own m.status w ≡ false = (knows S).1 in
      let k : saved m.saves w.task w.count ≡ v = cc in
      rw (← k, ← (current-other m.status m.saves w e)) (seen_before S _ (mine_past S))
    where
      knows : {w : Word} → Situation below m acts p (reading c (fetching w)) → ValidOrHeld (λ r. below r p) acts c w × (own m.status w ≡ false)
      knows S = subst (λ (v : Act). Knows (λ r. below r p) m.status m.saves acts p v) S.act (S.invariant.knows p)

-- EXCHANGES
module _ {below : ℕ → ℕ → Type 0} {m : Memory} {acts : List Act} {p : ℕ} {H H' : Knowledge} (T : Passes below acts p H H') (now : SeesNow m p H')
    (P : Past below H m acts) where
  pub exchange-past : (x : Exchange) → Situation below m acts p (act_of x) → Room m p x.entries
      → (x.step ≡ start → Distinct x.entries × SamePairs x.entries (H'.pairs p))
      → Past below H' (memory_after (exchange_tick p m x x.step)) (replace acts p (act_after (exchange_tick p m x x.step)))
  unfolding exchange_tick
  exchange-past x S R d = started? x
      (λ s. subst (λ (z : Step). Past below H' (memory_after (exchange_tick p m x z)) (replace acts p (act_after (exchange_tick p m x z)))) (sym s)
      (at-start (subst (λ (z : Step). Situation below m acts p (act_by z x)) s S) (d s)))
      (λ k. let S' : Situation below m acts p (exchanging x) = rw k at S in
      past_after S' T (exchange-moved S' R (outcome p m x)) (exchange_upholds_past S' T P now R (outcome p m x)) P)
    where
      at-start : Situation below m acts p free → Distinct x.entries × SamePairs x.entries (H'.pairs p)
          → Past below H' (memory_after (exchange_tick p m x start)) (replace acts p (act_after (exchange_tick p m x start)))
      at-start S d = start-past S tt T P x.entries d.0 d.1

  -- an exchange that answers no has its grounds
  pub no_has_grounds : (x : Exchange) (n : Memory) → Situation below m acts p (exchanging x) → Room m p x.entries
      → exchange_tick p m x x.step ≡ ends n false → GroundsOf H' p
  no_has_grounds x n S R e = (subst (λ (o : Exchanged). NoGrounds S T P o) e (no_grounds S T P R (outcome p m x))) refl
