-- What a statement of task p leaves alone, said once, and how all that the other tasks know is carried over it.
use Prim.Native.Nat.{ℕ, ◌<◌}
use mathlib.Core.Bool.{Bool, true, false, not}
use mathlib.Core.Path.{◌≡◌, refl, sym, ◌∙◌, ap}
use mathlib.Core.Logic.{◌≢◌, inl, inr}
use mathlib.Core.List.{List, []}
use native.Mathlib.Omega.{arith}
use lib.Dec.{eqb}
use lib.ListN.{length}
use borrow.Author.Tests.{ne_eqb}
use Rattle.model.specs.Lists.{at, replace}
use Rattle.model.specs.Word.{Word, Memory, cell_of, status_of, saved, set_cell, set_status}
use Rattle.model.specs.Word.{set_save, own, current, Reading, loading, looking, fetching}
use Rattle.model.specs.Exchange.{Entry, Step, start, test, load, look, fetch, fail, mark, install, commit, save, clean, clean_mark, Exchange}
use Rattle.model.proofs.Lists.{replace-same, replace-other, same?, impossible}
use Rattle.model.proofs.Exchanges.Act.{Act, free, reading, exchanging, act_at}
use Rattle.model.proofs.Exchanges.Invariant.{ValidOrHeld, valid, held, Anyone, Loaded, FoundOld, Settled}
use Rattle.model.proofs.Exchanges.Invariant.{AtStep, InReading, Knows, Rank, itself, idle, lower, Situation}
use Rattle.model.proofs.Exchanges.Words.{own-valid, own_same, current-own, current-same}

-- a status that another task's statement leaves: the same, or marked, which it may be unless it is 2
pub data Kept (old new : ℕ) : Type 0 where
  same : new ≡ old → Kept old new
  marked : old ≢ 2 → new ≡ 1 → Kept old new

pub record Frame (p : ℕ) (m n : Memory) : Type 0 where
  pub status : (r : ℕ) → r ≢ p → Kept (status_of m r) (status_of n r)
  pub saves : (r e : ℕ) → r ≢ p → saved n.saves r e ≡ saved m.saves r e

pub kept-two : {s t : ℕ} → Kept s t → eqb t 2 ≡ eqb s 2
kept-two (same e) = rw e
kept-two {s} {t} (marked ne e) = rw (e, ne_eqb s 2 ne)

pub kept-one : {s t : ℕ} → Kept s t → s ≡ 1 → t ≡ 1
kept-one (same e) h = e ∙ h
kept-one (marked ne e) h = e

pub kept-zero : {s t : ℕ} → Kept s t → t ≡ 0 → s ≡ 0
kept-zero (same e) h = sym e ∙ h
kept-zero (marked ne e) h = omega arith

pub kept-not-two : {s t : ℕ} → Kept s t → s ≢ 2 → t ≢ 2
kept-not-two (same e) h = λ k. h (sym e ∙ k)
kept-not-two (marked ne e) h = omega arith

-- WHAT EACH STORE LEAVES ALONE
pub frame-none : (p : ℕ) (m : Memory) → Frame p m m
frame-none p m = record { status = λ r ne. same refl; saves = λ r e ne. refl }

pub frame-cell : (p : ℕ) (m : Memory) (c : ℕ) (w : Word) → Frame p m (set_cell m c w)
frame-cell p m c w = record { status = λ r ne. same refl; saves = λ r e ne. refl }

pub frame-save : (p : ℕ) (m : Memory) (i v : ℕ) → Frame p m (set_save m p i v)
frame-save p m i v = record { status = λ r ne. same refl; saves = λ r e ne. ap (λ (l : List ℕ). at 0 l e) (replace-other [] m.saves p r _ ne) }

pub frame-status : (p : ℕ) (m : Memory) (v : ℕ) → Frame p m (set_status m p v)
frame-status p m v = record { status = λ r ne. same (replace-other 0 m.status p r v ne); saves = λ r e ne. refl }

-- a Mark keeps every status in this way, the marker's own too
pub mark_keeps : (m : Memory) (q : ℕ) → q < length m.status → status_of m q ≢ 2 → (r : ℕ) → Kept (status_of m r) (status_of (set_status m q 1) r)
mark_keeps m q l ne r = same? r q
    (λ e. marked (rw e ne) (rw (e, replace-same 0 m.status q 1 l)))
    (λ d. same (replace-other 0 m.status q r 1 d))

pub frame_mark : (p : ℕ) (m : Memory) (q : ℕ) → q < length m.status → status_of m q ≢ 2 → Frame p m (set_status m q 1)
frame_mark p m q l ne = record { status = λ r d. mark_keeps m q l ne r; saves = λ r e d. refl }

-- WHAT IS KNOWN OF A CONTENT stays, if it is of other tasks than p
pub move_content : {of : ℕ → Type 0} {acts : List Act} {c : ℕ} {w : Word} (p : ℕ) (v : Act) → ((r : ℕ) → of r → r ≢ p) → ValidOrHeld of acts c w
    → ValidOrHeld of (replace acts p v) c w
move_content p v clear (valid h) = valid h
move_content {acts = acts} {w = w} p v clear (held o H) =
    held o (record {
      exchange = H.exchange;
      at-work = replace-other free acts p w.task v (clear w.task o) ∙ H.at-work;
      low = H.low;
      high = H.high;
      cell = H.cell;
      is = H.is;
    })

module _ {p : ℕ} {m n : Memory} (F : Frame p m n) where
  pub own-frame : {of : ℕ → Type 0} {acts : List Act} {c : ℕ} {w : Word} → ((r : ℕ) → of r → r ≢ p) → ValidOrHeld of acts c w
      → own n.status w ≡ own m.status w
  own-frame {w = w} clear (valid h) = own-valid n.status w h ∙ sym (own-valid m.status w h)
  own-frame {w = w} clear (held o H) = own_same m.status n.status w (kept-two (F.status w.task (clear w.task o)))

  pub current-frame : {of : ℕ → Type 0} {acts : List Act} {c : ℕ} {w : Word} → ((r : ℕ) → of r → r ≢ p) → ValidOrHeld of acts c w
      → current n.status n.saves w ≡ current m.status m.saves w
  current-frame {w = w} clear (valid h) =
      current-own n.status n.saves w (own-valid n.status w h) ∙ sym (current-own m.status m.saves w (own-valid m.status w h))
  current-frame {w = w} clear (held o H) =
      current-same m.status n.status w m.saves n.saves (own-frame clear (held o H)) (F.saves w.task w.count (clear w.task o))

  -- an entry of task q, which may be p if the save place is kept
  module _ (v : Act) {of : ℕ → Type 0} (acts : List Act) (clear : (r : ℕ) → of r → r ≢ p) where
    pub loaded-frame : {e : Entry} → Loaded of m.status acts e → Loaded of n.status (replace acts p v) e
    loaded-frame L =
        record { valid_or_held = move_content p v clear L.valid_or_held; looked = L.looked ∙ ap not (sym (own-frame clear L.valid_or_held)) }

    pub found-frame : {q : ℕ} {e : Entry} {i : ℕ} → saved n.saves q i ≡ saved m.saves q i → FoundOld of m.status m.saves acts q e i
        → FoundOld of n.status n.saves (replace acts p v) q e i
    found-frame s E =
        record { loaded = loaded-frame E.loaded; was_old = current-frame clear E.loaded.valid_or_held ∙ E.was_old; kept-old = s ∙ E.kept-old }

    -- the task whose content an overlapped entry replaces
    pub replaced_of : {e : Entry} → Loaded of m.status acts e → e.overlapped ≡ true → of e.init.task
    replaced_of {e} L o = go L.valid_or_held
      where
        go : ValidOrHeld of acts e.cell e.init → of e.init.task
        go (valid h) = let z : ◌≡◌ {A = Bool} true false = sym o ∙ L.looked ∙ ap not (own-valid m.status e.init h) in impossible (cc)
        go (held h H) = h

    pub settled_frame : {q : ℕ} {e : Entry} {i : ℕ} → saved n.saves q i ≡ saved m.saves q i → Settled of m.status m.saves acts q e i
        → Settled of n.status n.saves (replace acts p v) q e i
    settled_frame {e = e} s E =
        record {
          found = found-frame s E.found;
          marked = λ o d. kept-one (F.status e.init.task (clear e.init.task (replaced_of E.found.loaded o))) (E.marked o d);
        }

    -- another task: all that it knows
    module _ (q : ℕ) (ne : q ≢ p) where
      step-frame : (x : Exchange) (s : Step) → AtStep of m.status m.saves acts q x s → AtStep of n.status n.saves (replace acts p v) q x s
      step-frame x start h = h
      step-frame x test h = tt
      step-frame x load h = tt
      step-frame x look h = move_content p v clear h
      step-frame x fetch h = (loaded-frame h.0, h.1)
      step-frame x (save u) h = (loaded-frame h.0, h.1 ∙ sym (current-frame clear h.0.valid_or_held))
      step-frame x fail h = tt
      step-frame x mark h = (found-frame (F.saves q x.i ne) h.0, h.1, h.2)
      step-frame x install h = settled_frame (F.saves q x.i ne) h
      step-frame x commit (inl e) = inl e
      step-frame x commit (inr d) = inr (λ e. d (kept-zero (F.status q ne) e))
      step-frame x (clean j yes?) h = (h.0, h.1 ∙ sym (kept-two (F.status q ne)))
      step-frame x (clean_mark j yes?) h = (h.0, h.1 ∙ sym (kept-two (F.status q ne)), h.2)

      reading-frame : (c : ℕ) (r : Reading) → InReading of m.status m.saves acts q c r
          → InReading of n.status n.saves (replace acts p v) q c r
      reading-frame c loading h = tt
      reading-frame c (looking w) h = move_content p v clear h
      reading-frame c (fetching w) h = (move_content p v clear h.0, own-frame clear h.0 ∙ h.1)

      pub knows_frame : (u : Act) → Knows of m.status m.saves acts q u → Knows of n.status n.saves (replace acts p v) q u
      knows_frame free h = tt
      knows_frame (reading c r) h = reading-frame c r h
      knows_frame (exchanging x) K =
          record {
            within = K.within;
            at_entry = K.at_entry;
            distinct = K.distinct;
            settled = λ e l h. settled_frame (F.saves q e ne) (K.settled e l h);
            not_yet = λ u. kept-not-two (F.status q ne) (K.not_yet u);
            at-step = step-frame x x.step K.at-step;
          }

-- what is asked of a statement of p that leaves the memory n and p at v
pub record Moved (below : ℕ → ℕ → Type 0) (m n : Memory) (acts : List Act) (p : ℕ) (v : Act) : Type 0 where
  pub frame : Frame p m n
  pub contents : (c : ℕ) → ValidOrHeld Anyone (replace acts p v) c (cell_of n c)
  pub knows : Knows (λ r. below r p) n.status n.saves (replace acts p v) p v

module _ {below : ℕ → ℕ → Type 0} {m : Memory} {acts : List Act} {p : ℕ} {v₀ : Act} (S : Situation below m acts p v₀) where
  -- tasks below p, and tasks below those, are other tasks than p
  pub below_clear : (r : ℕ) → below r p → r ≢ p
  below_clear r b e = S.order.irreflexive p (rw e at b)

  pub lower_clear : (q : ℕ) → below q p → (r : ℕ) → below r q → r ≢ p
  lower_clear q l r b e = S.order.irreflexive q (S.order.transitive q p q l (rw e at b))

  -- whoever runs before p does nothing
  pub nobody_above : (q : ℕ) → below p q → act_at acts q ≡ free
  nobody_above q b = go (S.rank q)
    where
      go : Rank below acts p q → act_at acts q ≡ free
      go (itself e) = absurd (below_clear p (rw e at b) refl)
      go (idle i) = i
      go (lower l) = absurd (lower_clear q l p b refl)

  pub assemble : {n : Memory} {v : Act} → Moved below m n acts p v → (q : ℕ)
      → Knows (λ r. below r q) n.status n.saves (replace acts p v) q (act_at (replace acts p v) q)
  assemble {n} {v} M q = same? q p
      (λ e. rw (e, replace-same free acts p v S.task) M.knows)
      (λ ne. rw (replace-other free acts p q v ne) (go ne (S.rank q)))
    where
      go : q ≢ p → Rank below acts p q → Knows (λ r. below r q) n.status n.saves (replace acts p v) q (act_at acts q)
      go ne (itself e) = absurd (ne e)
      go ne (idle i) = rw i tt
      go ne (lower l) = knows_frame M.frame v acts (lower_clear q l) q ne (act_at acts q) (S.invariant.knows q)
