-- How an exchange goes on, no cell changed: what it has to show so that the grounds are upheld.
use Prim.Native.Nat.{ℕ, ◌<◌, ◌≤◌}
use mathlib.Core.Bool.{true}
use mathlib.Core.Path.{◌≡◌, refl, ◌∙◌, subst}
use mathlib.Core.Logic.{◌≢◌, ◌⊎◌, inl, inr}
use mathlib.Core.List.{List}
use Rattle.model.specs.Lists.{at, replace}
use Rattle.model.specs.Word.{Word, Memory, cell_of, status_of, fresh_word}
use Rattle.model.specs.Exchange.{Step, Exchange}
use Rattle.model.proofs.Lists.{replace-same}
use Rattle.model.proofs.Exchanges.Act.{Act, free, exchanging, act_at, stage, undecided, uncleaned}
use Rattle.model.proofs.Exchanges.Invariant.{Situation}
use Rattle.model.proofs.Exchanges.Frame.{nobody_above}
use Rattle.model.proofs.Exchanges.Early.{Follows}
use Rattle.model.proofs.Fit.Exchange.{SamePairs}
use Rattle.model.proofs.Exchanges.Ground.{Knowledge, GroundsOf, Replaces, CountsOn, there, replaced}
use Rattle.model.proofs.Exchanges.Ground.{was_hit, PastStep, PastExchange, PastAct, Past, Busy, Passes}
use Rattle.model.proofs.Exchanges.GroundFrame.{HitBelow, UpholdsPast, grounds_later, pairs-later}

module _ {below : ℕ → ℕ → Type 0} {m : Memory} {acts : List Act} {p : ℕ} {x : Exchange} (S : Situation below m acts p (exchanging x)) {H H' : Knowledge}
    (T : Passes below acts p H H') (P : Past below H m acts) where
  abbrev pub Outcome-past : Memory → Act → Type 0
  Outcome-past n v = UpholdsPast below H' m n acts p (exchanging x) v

  pub running : Busy acts p
  running = record { exchange = x; act = S.act }

  pub past : PastExchange below H m.cells m.status m.saves acts p x
  past = subst (λ (v : Act). PastAct below H m.cells m.status m.saves acts p v) S.act (P.knows p)

  pub past-step_as : (s : Step) → x.step ≡ s
      → PastStep (CountsOn below (H.hit p) m.cells acts p) (H.seen p) (H.hit p) (GroundsOf H p) m.status m.saves x s
  past-step_as s e =
      subst (λ (z : Step). PastStep (CountsOn below (H.hit p) m.cells acts p) (H.seen p) (H.hit p) (GroundsOf H p) m.status m.saves x z) e
      past.at-step

  -- nobody is above p: what it counts on is in its cell, or the cell was hit
  pub there_or_hit : {c : ℕ} {w : Word} → CountsOn below (H.hit p) m.cells acts p c w → (cell_of m c ≡ w) ⊎ H.hit p c
  there_or_hit (there h) = inl h
  there_or_hit (replaced q b C) = absurd (rw (nobody_above S q b) at C)
  there_or_hit (was_hit h) = inr h

  pub gone_hit : {c : ℕ} {w : Word} → cell_of m c ≢ w → CountsOn below (H.hit p) m.cells acts p c w → H.hit p c
  gone_hit {c} {w} ne k = go (there_or_hit k)
    where
      go : (cell_of m c ≡ w) ⊎ H.hit p c → H.hit p c
      go (inl h) = absurd (ne h)
      go (inr h) = h

  pub still_counts : (cells : List Word) (v : Act) {c : ℕ} {w : Word} → (cell_of m c ≡ w → at (fresh_word 0) cells c ≡ w)
      → CountsOn below (H.hit p) m.cells acts p c w → CountsOn below (H'.hit p) cells (replace acts p v) p c w
  still_counts cells v {c} {w} f k = go (there_or_hit k)
    where
      go : (cell_of m c ≡ w) ⊎ H.hit p c → CountsOn below (H'.hit p) cells (replace acts p v) p c w
      go (inl h) = there (f h)
      go (inr h) = was_hit (T.hit p c running h)

  pub follow_pairs : {x' : Exchange} → Follows x x' → SamePairs x'.entries (H'.pairs p)
  follow_pairs f =
      let Q = pairs-later T running past.pairs in
      record { size = f.size ∙ Q.size; cell = λ e. f.cell e ∙ Q.cell e; old = λ e. f.old e ∙ Q.old e; new = λ e. f.new e ∙ Q.new e }

  -- an entry that p answers for, when it goes on to x'
  pub replaced_on : {r c : ℕ} {w : Word} (x' : Exchange) (cells : List Word) → Follows x x' → below r p → (C : Replaces x c w)
      → uncleaned (stage x') ≤ C.number → C.number < x'.i → CountsOn below (H'.hit r) cells (replace acts p (exchanging x')) r c w
  replaced_on x' cells f b C l h =
      replaced p b (rw (replace-same free acts p (exchanging x') S.task)
      (record { number = C.number; low = l; high = h; cell = f.cell C.number ∙ C.cell; init = rw (f.done C.number C.high) C.init }))

  -- no cell is changed and no entry left behind
  pub same-past : {n : Memory} (x' : Exchange) → Follows x x' → x'.i ≡ x.i → uncleaned (stage x') ≡ uncleaned (stage x) → n.cells ≡ m.cells
      → ((r : ℕ) → r ≢ p → (status_of n r ≡ status_of m r) ⊎ ((z : Exchange) → act_at acts r ≡ exchanging z → below r p → HitBelow (H'.hit r) z))
      → (undecided (stage x') ≡ true → status_of n p ≢ 0 → GroundsOf H' p)
      → PastStep (CountsOn below (H'.hit p) n.cells (replace acts p (exchanging x')) p) (H'.seen p) (H'.hit p) (GroundsOf H' p) n.status
      n.saves x' x'.step
      → Outcome-past n (exchanging x')
  same-past {n} x' f ei l ec mk g s =
      record {
        content = λ r c w B b o h. there (rw ec h);
        cover = λ r c w B b C. replaced_on x' n.cells f b C (rw l C.low) (rw ei C.high);
        marked = mk;
        own = record {
          pairs = follow_pairs f;
          counts = λ e lo hi.
              let hi' : e < x.i = rw ei at hi in
              rw (f.done e hi') (still_counts n.cells (exchanging x') (λ k. rw ec k) (past.counts e (rw l at lo) hi'));
          grounds = g;
          at-step = s;
        };
      }

  -- nothing shared is changed
  pub quiet_past : (x' : Exchange) → Follows x x' → x'.i ≡ x.i → undecided (stage x) ≡ true → uncleaned (stage x') ≡ uncleaned (stage x)
      → PastStep (CountsOn below (H'.hit p) m.cells (replace acts p (exchanging x')) p) (H'.seen p) (H'.hit p) (GroundsOf H' p) m.status
      m.saves x' x'.step
      → Outcome-past m (exchanging x')
  quiet_past x' f ei u l s = same-past x' f ei l refl (λ r ne. inl refl) (λ _ d. grounds_later T running (past.grounds u d)) s
