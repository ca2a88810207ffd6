-- The order of urgency may change between two ticks: as long as it stays among the tasks at work, so do the invariant and the grounds.
use Prim.Native.Nat.{ℕ}
use mathlib.Core.Path.{◌≡◌, refl}
use mathlib.Core.Logic.{◌≢◌}
use mathlib.Core.List.{List}
use Rattle.model.specs.Word.{Word, Memory, loading, looking, fetching}
use Rattle.model.specs.Exchange.{Entry, Step, start, test, load, look, fetch, fail, mark, install, commit, save, clean, clean_mark, Exchange}
use Rattle.model.proofs.Lists.{impossible}
use Rattle.model.proofs.Exchanges.Act.{Act, free, reading, exchanging, act_at}
use Rattle.model.proofs.Exchanges.Invariant.{ValidOrHeld, valid, held, Loaded, FoundOld, Settled, AtStep, Knows}
use Rattle.model.proofs.Exchanges.Invariant.{CoveredBy, Stands, stands, covered, Standing, Invariant}
use Rattle.model.proofs.Exchanges.Ground.{Knowledge, GroundsOf, ReplacedBy, CountsOn, there, replaced, was_hit, PastStep, PastAct, Past}

not_free : {v : Act} {x : Exchange} → v ≡ exchanging x → v ≢ free
not_free e f = impossible (cc)

module _ {of of' : ℕ → Type 0} (acts : List Act) (f : (r : ℕ) → act_at acts r ≢ free → of r → of' r) where
  content_reordered : {c : ℕ} {w : Word} → ValidOrHeld of acts c w → ValidOrHeld of' acts c w
  content_reordered (valid h) = valid h
  content_reordered {w = w} (held o H) = held (f w.task (not_free H.at-work) o) H

  module _ (status : List ℕ) (saves : List (List ℕ)) (p : ℕ) where
    loaded_reordered : {n : Entry} → Loaded of status acts n → Loaded of' status acts n
    loaded_reordered L = record { valid_or_held = content_reordered L.valid_or_held; looked = L.looked }

    found_reordered : {n : Entry} {e : ℕ} → FoundOld of status saves acts p n e → FoundOld of' status saves acts p n e
    found_reordered E = record { loaded = loaded_reordered E.loaded; was_old = E.was_old; kept-old = E.kept-old }

    settled_reordered : {n : Entry} {e : ℕ} → Settled of status saves acts p n e → Settled of' status saves acts p n e
    settled_reordered E = record { found = found_reordered E.found; marked = E.marked }

    step_reordered : (x : Exchange) (s : Step) → AtStep of status saves acts p x s → AtStep of' status saves acts p x s
    step_reordered x start h = h
    step_reordered x test h = h
    step_reordered x load h = h
    step_reordered x look h = content_reordered h
    step_reordered x fetch h = (loaded_reordered h.0, h.1)
    step_reordered x (save v) h = (loaded_reordered h.0, h.1)
    step_reordered x fail h = h
    step_reordered x mark h = (found_reordered h.0, h.1, h.2)
    step_reordered x install h = settled_reordered h
    step_reordered x commit h = h
    step_reordered x (clean j yes?) h = h
    step_reordered x (clean_mark j yes?) h = h

    knows_reordered : (v : Act) → Knows of status saves acts p v → Knows of' status saves acts p v
    knows_reordered free h = tt
    knows_reordered (reading c loading) h = tt
    knows_reordered (reading c (looking w)) h = content_reordered h
    knows_reordered (reading c (fetching w)) h = (content_reordered h.0, h.1)
    knows_reordered (exchanging x) K =
        record {
          within = K.within;
          at_entry = K.at_entry;
          distinct = K.distinct;
          settled = λ e l h. settled_reordered (K.settled e l h);
          not_yet = K.not_yet;
          at-step = step_reordered x x.step K.at-step;
        }

at_work_covered : (v : Act) (w : Word) → CoveredBy v w → v ≢ free
at_work_covered free w C e = C
at_work_covered (reading c r) w C e = C
at_work_covered (exchanging x) w C e = not_free refl e

at_work_replaced : (v : Act) (c : ℕ) (w : Word) → ReplacedBy v c w → v ≢ free
at_work_replaced free c w C e = C
at_work_replaced (reading d r) c w C e = C
at_work_replaced (exchanging x) c w C e = not_free refl e

module _ {below below' : ℕ → ℕ → Type 0} (acts : List Act) (f : (r q : ℕ) → act_at acts r ≢ free → act_at acts q ≢ free → below r q → below' r q) where
  -- THE INVARIANT
  stands_reordered : (cells : List Word) {p c : ℕ} {w : Word} → act_at acts p ≢ free → Stands below cells acts p c w → Stands below' cells acts p c w
  stands_reordered cells n (stands h) = stands h
  stands_reordered cells {p} {w = w} n (covered q b C) = covered q (f p q n (at_work_covered (act_at acts q) w C) b) C

  standing_reordered : (cells : List Word) (status : List ℕ) (p : ℕ) (v : Act) → act_at acts p ≡ v → Standing below cells status acts p v
      → Standing below' cells status acts p v
  standing_reordered cells status p free a h = tt
  standing_reordered cells status p (reading c r) a h = tt
  standing_reordered cells status p (exchanging x) a h = λ k st e l. stands_reordered cells (not_free a) (h k st e l)

  knows_at_work : (status : List ℕ) (saves : List (List ℕ)) (p : ℕ) (v : Act) → act_at acts p ≡ v → Knows (λ r. below r p) status saves acts p v
      → Knows (λ r. below' r p) status saves acts p v
  knows_at_work status saves p free a h = tt
  knows_at_work status saves p (reading c r) a h = knows_reordered acts (λ q n b. f q p n (λ e. impossible (cc)) b) status saves p (reading c r) h
  knows_at_work status saves p (exchanging x) a h = knows_reordered acts (λ q n b. f q p n (not_free a) b) status saves p (exchanging x) h

  pub invariant_reordered : {m : Memory} → Invariant below m acts → Invariant below' m acts
  invariant_reordered {m} I =
      record {
        contents = I.contents;
        knows = λ p. knows_at_work m.status m.saves p (act_at acts p) refl (I.knows p);
        standing = λ p. standing_reordered m.cells m.status p (act_at acts p) refl (I.standing p);
      }

  -- THE GROUNDS
  counts_reordered : {hit : ℕ → Type 0} {cells : List Word} {r c : ℕ} {w : Word} → act_at acts r ≢ free → CountsOn below hit cells acts r c w
      → CountsOn below' hit cells acts r c w
  counts_reordered n (there h) = there h
  counts_reordered {r = r} {c} {w} n (replaced q b C) = replaced q (f r q n (at_work_replaced (act_at acts q) c w C) b) C
  counts_reordered n (was_hit h) = was_hit h

  module _ (H : Knowledge) (cells : List Word) (status : List ℕ) (saves : List (List ℕ)) (r : ℕ) where
    past-step_reordered : (x : Exchange) → act_at acts r ≢ free → (s : Step)
        → PastStep (CountsOn below (H.hit r) cells acts r) (H.seen r) (H.hit r) (GroundsOf H r) status saves x s
        → PastStep (CountsOn below' (H.hit r) cells acts r) (H.seen r) (H.hit r) (GroundsOf H r) status saves x s
    past-step_reordered x n start h = h
    past-step_reordered x n test h = h
    past-step_reordered x n load h = h
    past-step_reordered x n look h = (counts_reordered n h.0, h.1)
    past-step_reordered x n fetch h = (counts_reordered n h.0, h.1)
    past-step_reordered x n (save v) h = (counts_reordered n h.0, h.1)
    past-step_reordered x n fail h = h
    past-step_reordered x n mark h = counts_reordered n h
    past-step_reordered x n install h = counts_reordered n h
    past-step_reordered x n commit h = h
    past-step_reordered x n (clean j yes?) h = h
    past-step_reordered x n (clean_mark j yes?) h = h

    past_act_reordered : (v : Act) → act_at acts r ≡ v → PastAct below H cells status saves acts r v → PastAct below' H cells status saves acts r v
    past_act_reordered free a h = tt
    past_act_reordered (reading c loading) a h = tt
    past_act_reordered (reading c (looking w)) a h = h
    past_act_reordered (reading c (fetching w)) a h = h
    past_act_reordered (exchanging x) a P =
        record {
          pairs = P.pairs;
          counts = λ e l h. counts_reordered (not_free a) (P.counts e l h);
          grounds = P.grounds;
          at-step = past-step_reordered x (not_free a) x.step P.at-step;
        }

  pub past_reordered : {H : Knowledge} {m : Memory} → Past below H m acts → Past below' H m acts
  past_reordered {H} {m} P = record { knows = λ r. past_act_reordered H m.cells m.status m.saves r (act_at acts r) refl (P.knows r) }
