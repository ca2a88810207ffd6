-- The grounds carried over a statement of the running task, for all tasks at once.
use Prim.Native.Nat.{ℕ, ◌<◌}
use mathlib.Core.Bool.{true, true≢false}
use mathlib.Core.Path.{◌≡◌, refl, sym, ◌∙◌, ap}
use mathlib.Core.Logic.{◌≢◌, ◌⊎◌, inl, inr}
use mathlib.Core.List.{List}
use native.Mathlib.Omega.{arith}
use Rattle.model.specs.Lists.{replace}
use Rattle.model.specs.Word.{Word, Memory, cell_of, status_of, current, loading, looking, fetching}
use Rattle.model.specs.Exchange.{Entry, Step, start, test, load, look, fetch, fail, mark, install}
use Rattle.model.specs.Exchange.{commit, save, clean, clean_mark, Exchange, entry_at, installed}
use Rattle.model.proofs.Lists.{replace-same, replace-other, same?, impossible}
use Rattle.model.proofs.Exchanges.Act.{Act, free, reading, exchanging, act_at, stage, undecided}
use Rattle.model.proofs.Exchanges.Invariant.{ValidOrHeld, valid, held, AtStep, InExchange, Knows, Rank, itself, idle, lower, Situation}
use Rattle.model.proofs.Exchanges.Frame.{current-frame, lower_clear, Moved}
use Rattle.model.proofs.Fit.Exchange.{SamePairs}
use Rattle.model.proofs.Exchanges.Ground.{Knowledge, Grounds, differs, beaten, GroundsOf, ReplacedBy, CountsOn, there}
use Rattle.model.proofs.Exchanges.Ground.{replaced, was_hit, PastStep, PastExchange, PastAct, Past, Busy, Passes}

-- one of the cells that the exchange has come to was hit
pub record HitBelow (hit : ℕ → Type 0) (z : Exchange) : Type 0 where
  pub number : ℕ
  pub high : number < z.i
  pub was : hit (entry_at z number).cell

-- what is asked of a statement of p that leads from the memory m and act v₀ to n and v
pub record UpholdsPast (below : ℕ → ℕ → Type 0) (H' : Knowledge) (m n : Memory) (acts : List Act) (p : ℕ) (v₀ v : Act) : Type 0 where
  pub content : (r c : ℕ) (w : Word) → Busy acts r → below r p → ((e : Entry) (i : ℕ) → w ≢ installed p e i) → cell_of m c ≡ w
      → CountsOn below (H'.hit r) n.cells (replace acts p v) r c w
  pub cover : (r c : ℕ) (w : Word) → Busy acts r → below r p → ReplacedBy v₀ c w → CountsOn below (H'.hit r) n.cells (replace acts p v) r c w
  pub marked : (r : ℕ) → r ≢ p → (status_of n r ≡ status_of m r) ⊎ ((z : Exchange) → act_at acts r ≡ exchanging z → below r p → HitBelow (H'.hit r) z)
  pub own : PastAct below H' n.cells n.status n.saves (replace acts p v) p v

module _ {below : ℕ → ℕ → Type 0} {acts : List Act} {p : ℕ} {H H' : Knowledge} (T : Passes below acts p H H') where
  pub busy_not_free : {r : ℕ} → Busy acts r → act_at acts r ≢ free
  busy_not_free B f = impossible (cc B.act)

  pub grounds_later : {r : ℕ} → Busy acts r → GroundsOf H r → GroundsOf H' r
  grounds_later {r} B g = rw (T.pairs r B) (go g)
    where
      go : GroundsOf H r → Grounds (H'.seen r) (H'.hit r) (H.pairs r)
      go (differs e v l s ne) = differs e v l (T.seen r _ v (busy_not_free B) s) ne
      go (beaten e l h) = beaten e l (T.hit r _ B h)

  pub pairs-later : {r : ℕ} {fs : List Entry} → Busy acts r → SamePairs fs (H.pairs r) → SamePairs fs (H'.pairs r)
  pairs-later {r} B P = rw (T.pairs r B) P

  pub seen_later : {r : ℕ} {c v : ℕ} → Busy acts r → H.seen r c v → H'.seen r c v
  seen_later {r} {c} {v} B s = T.seen r c v (busy_not_free B) s

module _ {below : ℕ → ℕ → Type 0} {m : Memory} {acts : List Act} {p : ℕ} {v₀ : Act} (S : Situation below m acts p v₀) {H H' : Knowledge}
    (T : Passes below acts p H H') {n : Memory} {v : Act} (M : Moved below m n acts p v) (U : UpholdsPast below H' m n acts p v₀ v) where
  -- a task r below p
  module _ (r : ℕ) (b : below r p) (ne : r ≢ p) where
    counts-later : (c : ℕ) (w : Word) → Busy acts r → ((e : Entry) (i : ℕ) → w ≢ installed p e i) → CountsOn below (H.hit r) m.cells acts r c w
        → CountsOn below (H'.hit r) n.cells (replace acts p v) r c w
    counts-later c w B o (there h) = U.content r c w B b o h
    counts-later c w B o (replaced q bq C) = same? q p
        (λ k. U.cover r c w B b (rw (k, S.act) at C))
        (λ d. replaced q bq (rw (replace-other free acts p q v d) C))
    counts-later c w B o (was_hit h) = was_hit (T.hit r c B h)

    -- contents of tasks below r are not p's
    not-running : {c : ℕ} {w : Word} → ValidOrHeld (λ q. below q r) acts c w → (e : Entry) (i : ℕ) → w ≢ installed p e i
    not-running (valid h) e i k = true≢false (sym h ∙ ap (λ (z : Word). z.valid) k)
    not-running {w = w} (held o G) e i k = lower_clear S r b w.task o (ap (λ (z : Word). z.task) k)

    current-later : {c : ℕ} {w : Word} → ValidOrHeld (λ q. below q r) acts c w → current n.status n.saves w ≡ current m.status m.saves w
    current-later k = current-frame M.frame (lower_clear S r b) k

    value-later : {c : ℕ} {w : Word} → act_at acts r ≢ free → ValidOrHeld (λ q. below q r) acts c w → H.seen r c (current m.status m.saves w)
        → H'.seen r c (current n.status n.saves w)
    value-later nf k h = rw (current-later k) (T.seen r _ _ nf h)

    module _ (x : Exchange) (ax : act_at acts r ≡ exchanging x) where
      busy : Busy acts r
      busy = record { exchange = x; act = ax }

      loaded-later : {c : ℕ} {w : Word} → ValidOrHeld (λ q. below q r) acts c w → CountsOn below (H.hit r) m.cells acts r c w
          → CountsOn below (H'.hit r) n.cells (replace acts p v) r c w
      loaded-later {c} {w} k h = counts-later c w busy (not-running k) h

      step-later : (s : Step) → AtStep (λ q. below q r) m.status m.saves acts r x s
          → PastStep (CountsOn below (H.hit r) m.cells acts r) (H.seen r) (H.hit r) (GroundsOf H r) m.status m.saves x s
          → PastStep (CountsOn below (H'.hit r) n.cells (replace acts p v) r) (H'.seen r) (H'.hit r) (GroundsOf H' r) n.status n.saves x s
      step-later start k h = tt
      step-later test k h = tt
      step-later load k h = tt
      step-later look k h = (loaded-later k h.0, value-later (busy_not_free T busy) k h.1)
      step-later fetch k h = (loaded-later k.0.valid_or_held h.0, value-later (busy_not_free T busy) k.0.valid_or_held h.1)
      step-later (save u) k h = (loaded-later k.0.valid_or_held h.0, seen_later T busy h.1)
      step-later fail k h = grounds_later T busy h
      step-later mark k h = loaded-later k.0.loaded.valid_or_held h
      step-later install k h = loaded-later k.found.loaded.valid_or_held h
      step-later commit k h = tt
      step-later (clean j yes?) k h = λ e. grounds_later T busy (h e)
      step-later (clean_mark j yes?) k h = (λ e. grounds_later T busy (h.0 e), T.hit r _ busy h.1)

      exchange-later : InExchange (λ q. below q r) m.status m.saves acts r x → PastExchange below H m.cells m.status m.saves acts r x
          → PastExchange below H' n.cells n.status n.saves (replace acts p v) r x
      exchange-later K P =
          record {
            pairs = pairs-later T busy P.pairs;
            counts = λ e l h. counts-later _ _ busy (λ f i k. ne (ap (λ (z : Word). z.task) k)) (P.counts e l h);
            grounds = λ u d. go u d (U.marked r ne);
            at-step = step-later x.step K.at-step P.at-step;
          }
        where
          go : undecided (stage x) ≡ true → status_of n r ≢ 0
              → (status_of n r ≡ status_of m r) ⊎ ((z : Exchange) → act_at acts r ≡ exchanging z → below r p → HitBelow (H'.hit r) z) → GroundsOf H' r
          go u d (inl e) = grounds_later T busy (P.grounds u (rw e at d))
          go u d (inr f) =
              let h = f x ax b in
              let Q = pairs-later T busy P.pairs in
              beaten h.number (omega (arith, h.high, K.within, Q.size)) (rw (Q.cell h.number) at h.was)

    lower_later : (u : Act) → act_at acts r ≡ u → Knows (λ q. below q r) m.status m.saves acts r u
        → PastAct below H m.cells m.status m.saves acts r u
        → PastAct below H' n.cells n.status n.saves (replace acts p v) r u
    lower_later free e k h = tt
    lower_later (reading c loading) e k h = tt
    lower_later (reading c (looking w)) e k h = value-later (λ f. impossible (cc)) k h
    lower_later (reading c (fetching w)) e k h = value-later (λ f. impossible (cc)) k.0 h
    lower_later (exchanging x) e k h = exchange-later x e k h

  pub past_after : Past below H m acts → Past below H' n (replace acts p v)
  past_after P = record {
    knows = λ r. same? r p
        (λ k. rw (k, replace-same free acts p v S.task) U.own)
        (λ ne. rw (replace-other free acts p r v ne) (go r ne (S.rank r)));
  }
    where
      go : (r : ℕ) → r ≢ p → Rank below acts p r → PastAct below H' n.cells n.status n.saves (replace acts p v) r (act_at acts r)
      go r ne (itself e) = absurd (ne e)
      go r ne (idle i) = rw i tt
      go r ne (lower b) = lower_later r b ne (act_at acts r) refl (S.invariant.knows r) (P.knows r)
