-- Load, Look, Fetch, Save, Fail, Mark and Install uphold the grounds.
use Prim.Native.Nat.{ℕ, ◌<◌}
use mathlib.Core.Bool.{true, false}
use mathlib.Core.Path.{◌≡◌, refl, sym, ◌∙◌, ap}
use mathlib.Core.Logic.{◌≢◌, ◌⊎◌, inl, inr}
use mathlib.Core.List.{List}
use native.Mathlib.Omega.{arith}
use lib.ListN.{length}
use borrow.Author.Tests.{not-true}
use Rattle.model.specs.Lists.{at, replace}
use Rattle.model.specs.Word.{Word, Memory, cell_of, status_of, saved, set_cell, set_status, set_save, own, fresh_word}
use Rattle.model.specs.Exchange.{Entry, Step, test, load, look, fetch, fail, mark, install}
use Rattle.model.specs.Exchange.{save, Exchange, entry_at, installed, to, onward, init_loaded}
use Rattle.model.proofs.Lists.{replace-same, replace-other, same?}
use Rattle.model.proofs.Exchanges.Act.{Act, free, exchanging, act_at, stage_of, uncleaned, here}
use Rattle.model.proofs.Exchanges.Invariant.{Loaded, Situation, Room}
use Rattle.model.proofs.Exchanges.Words.{current-own, current-other}
use Rattle.model.proofs.Exchanges.Frame.{below_clear}
use Rattle.model.proofs.Exchanges.Early.{follows_to, follows_onward, follows_noted, noted_here}
use Rattle.model.proofs.Exchanges.Early.{from_zero, mine, inside, at-step_as, replaced_held}
use Rattle.model.proofs.Fit.Exchange.{SamePairs}
use Rattle.model.proofs.Exchanges.Ground.{Knowledge, differs, beaten, GroundsOf, CountsOn, there, replaced}
use Rattle.model.proofs.Exchanges.Ground.{was_hit, PastStep, PastExchange, Past, Busy, Passes, SeesNow}
use Rattle.model.proofs.Exchanges.GroundFrame.{HitBelow, grounds_later, pairs-later, seen_later}
use Rattle.model.proofs.Exchanges.GroundEarly.{Outcome-past, running, past, past-step_as, gone_hit}
use Rattle.model.proofs.Exchanges.GroundEarly.{still_counts, follow_pairs, replaced_on, same-past, quiet_past}

module _ {below : ℕ → ℕ → Type 0} {m : Memory} {acts : List Act} {p : ℕ} {x : Exchange} (S : Situation below m acts p (exchanging x)) {H H' : Knowledge}
    (T : Passes below acts p H H') (P : Past below H m acts) where
  -- p's pairs as the history has them
  pub known : SamePairs x.entries (H'.pairs p)
  known = pairs-later T (running S T P) (past S T P).pairs

  pub hit_grounds : (e : ℕ) → e < length x.entries → H.hit p (entry_at x e).cell → GroundsOf H' p
  hit_grounds e l h = beaten e (rw known.size at l) (rw (known.cell e) at (T.hit p _ (running S T P) h))

  -- a changing pair of p's has hit all tasks below p
  pub changing_hits : (r e : ℕ) → Busy acts r → below r p → e < length x.entries → (entry_at x e).old ≢ (entry_at x e).new
      → H'.hit r (entry_at x e).cell
  changing_hits r e B b l d =
      let Q = (past S T P).pairs in
      rw (Q.cell e) (T.mine r e B (running S T P) b (rw Q.size at l) (λ k. d (Q.old e ∙ k ∙ sym (Q.new e))))

  -- whoever p marks has been hit, if its task's cell has
  pub marked_hit : (n : Entry) → Loaded (λ r. below r p) m.status acts n → n.overlapped ≡ true
      → ((r : ℕ) → Busy acts r → below r p → H'.hit r n.cell)
      → (r : ℕ) → r ≢ p
      → (status_of (set_status m n.init.task 1) r ≡ status_of m r)
      ⊎ ((z : Exchange) → act_at acts r ≡ exchanging z → below r p → HitBelow (H'.hit r) z)
  marked_hit n L o hits r ne = same? r n.init.task
      (λ k. inr (λ z az b.
      let G = (replaced_held S L o).1 in
      let y : G.exchange ≡ z = cc G.at-work in
      record { number = n.init.count; high = rw (← y) G.high; was = rw (← y, G.cell) (hits r (record { exchange = z; act = az }) b) }))
      (λ d. inl (replace-other 0 m.status n.init.task r 1 d))

  -- BEFORE COMMIT
  pub counts-on : (cells : List Word) (v : Act) → cells ≡ m.cells → {c : ℕ} {w : Word} → CountsOn below (H.hit p) m.cells acts p c w
      → CountsOn below (H'.hit p) cells (replace acts p v) p c w
  counts-on cells v ec k = still_counts S T P cells v (λ h. rw ec h) k

  pub load_past : SeesNow m p H' → x.step ≡ load → Outcome-past S T P m (exchanging (init_loaded x (cell_of m (here x).cell) false look))
  load_past now s =
      let l = inside S load s refl in
      quiet_past S T P (init_loaded x (cell_of m (here x).cell) false look) (follows_noted x _ false look l) refl (rw s) (rw s)
      (rw (noted_here x (cell_of m (here x).cell) false look l) (there refl, now (here x).cell))

  pub look-own-past : x.step ≡ look → own m.status (here x).init ≡ true
      → Outcome-past S T P m (exchanging (init_loaded x (here x).init false (save (here x).init.value)))
  look-own-past s w =
      let l = inside S look s refl in
      let h = past-step_as S T P look s in
      quiet_past S T P (init_loaded x (here x).init false (save (here x).init.value)) (follows_noted x _ false _ l) refl (rw s) (rw s)
      (rw (noted_here x (here x).init false (save (here x).init.value) l)
      (counts-on m.cells _ refl h.0, rw (current-own m.status m.saves (here x).init w) at (seen_later T (running S T P) h.1)))

  pub look-other-past : x.step ≡ look → own m.status (here x).init ≡ false
      → Outcome-past S T P m (exchanging (init_loaded x (here x).init true fetch))
  look-other-past s w =
      let l = inside S look s refl in
      let h = past-step_as S T P look s in
      quiet_past S T P (init_loaded x (here x).init true fetch) (follows_noted x _ true fetch l) refl (rw s) (rw s)
      (rw (noted_here x (here x).init true fetch l) (counts-on m.cells _ refl h.0, seen_later T (running S T P) h.1))

  pub fetch_past : x.step ≡ fetch → Outcome-past S T P m (exchanging (to x (save (saved m.saves (here x).init.task (here x).init.count))))
  fetch_past s =
      let k = at-step_as S fetch s in
      let w : own m.status (here x).init ≡ false = not-true _ (sym k.0.looked ∙ k.1) in
      let h = past-step_as S T P fetch s in
      quiet_past S T P (to x (save _)) (follows_to x (save _)) refl (rw s) (rw s)
      (counts-on m.cells _ refl h.0, rw (current-other m.status m.saves (here x).init w) at (seen_later T (running S T P) h.1))

  pub save-past : (v : ℕ) (s : Step) → x.step ≡ save v → uncleaned (stage_of s) ≡ 0
      → PastStep (CountsOn below (H'.hit p) m.cells (replace acts p (exchanging (to x s))) p) (H'.seen p) (H'.hit p) (GroundsOf H' p)
      m.status (set_save m p x.i v).saves (to x s) s
      → Outcome-past S T P (set_save m p x.i v) (exchanging (to x s))
  save-past v s e l h =
      same-past S T P (to x s) (follows_to x s) refl (rw e l) refl (λ r ne. inl refl)
      (λ _ d. grounds_later T (running S T P) ((past S T P).grounds (rw e) d)) h

  pub differing_grounds : (v : ℕ) → x.step ≡ save v → v ≢ (here x).old → GroundsOf H' p
  differing_grounds v e ne =
      let h = past-step_as S T P (save v) e in
      differs x.i v (rw known.size at (inside S (save v) e refl)) (rw (known.cell x.i) at (seen_later T (running S T P) h.1))
      (λ k. ne (k ∙ sym (known.old x.i)))

  pub fail_past : x.step ≡ fail → Outcome-past S T P (set_status m p 1) (exchanging (to x test))
  fail_past s =
      same-past S T P (to x test) (follows_to x test) refl (rw s) refl (λ r ne. inl (replace-other 0 m.status p r 1 ne))
      (λ _ d. grounds_later T (running S T P) (past-step_as S T P fail s)) tt

  pub mark_past : x.step ≡ mark → Outcome-past S T P (set_status m (here x).init.task 1) (exchanging (to x install))
  mark_past s =
      let k = at-step_as S mark s in
      let l = inside S mark s refl in
      same-past S T P (to x install) (follows_to x install) refl (rw s) refl
      (marked_hit (here x) k.0.loaded k.1 (λ r B b. changing_hits r x.i B b l k.2))
      (λ _ d. grounds_later T (running S T P)
      ((past S T P).grounds (rw s)
      (rw
      (replace-other 0 m.status (here x).init.task p 1
      (λ e. below_clear S (here x).init.task (replaced_held S k.0.loaded k.1).0 (sym e)))
      at d)))
      (counts-on m.cells _ refl (past-step_as S T P mark s))

  -- INSTALL
  onward-past : (cells : List Word) (s : Step) → x.step ≡ install → uncleaned (stage_of s) ≡ 0
      → CountsOn below (H'.hit p) cells (replace acts p (exchanging (onward x s))) p (here x).cell (installed p (here x) x.i)
      → ((e : ℕ) → e < x.i → cell_of m (entry_at x e).cell ≡ installed p (entry_at x e) e
      → at (fresh_word 0) cells (entry_at x e).cell ≡ installed p (entry_at x e) e)
      → PastStep (CountsOn below (H'.hit p) cells (replace acts p (exchanging (onward x s))) p) (H'.seen p) (H'.hit p) (GroundsOf H' p) m.status
      m.saves (onward x s) s
      → PastExchange below H' cells m.status m.saves (replace acts p (exchanging (onward x s))) p (onward x s)
  onward-past cells s e l0 new kept h =
      record {
        pairs = follow_pairs S T P (follows_onward x s);
        counts = λ f l g. same? f x.i
            (λ k. rw k new)
            (λ ne. still_counts S T P cells (exchanging (onward x s)) (kept f (omega arith))
            ((past S T P).counts f (from_zero (rw e) f) (omega arith)));
        grounds = λ _ d. grounds_later T (running S T P) ((past S T P).grounds (rw e) d);
        at-step = h;
      }

  pub install_past : Room m p x.entries → x.step ≡ install → cell_of m (here x).cell ≡ (here x).init
      → Outcome-past S T P (set_cell m (here x).cell (installed p (here x) x.i)) (exchanging (onward x test))
  install_past R s h =
      let w = installed p (here x) x.i in
      let l = inside S install s refl in
      let cells = replace m.cells (here x).cell w in
      record {
        content = λ r c u B b o k. same? c (here x).cell
            (λ d.
            replaced p b (rw (replace-same free acts p (exchanging (onward x test)) S.task)
            (record { number = x.i; low = omega arith; high = omega arith; cell = sym d; init = sym h ∙ ap (λ (z : ℕ). cell_of m z) (sym d) ∙ k })))
            (λ ne. there (rw (replace-other (fresh_word 0) m.cells (here x).cell c w ne) k));
        cover = λ r c u B b C. replaced_on S T P (onward x test) cells (follows_onward x test) b C (omega arith) (omega (arith, C.high));
        marked = λ r ne. inl refl;
        own = onward-past cells test s refl (there (replace-same (fresh_word 0) m.cells (here x).cell w (R.cells x.i l)))
            (λ e g k. rw
            (replace-other (fresh_word 0) m.cells (here x).cell (entry_at x e).cell w
            (λ d. let z = (mine S).distinct e x.i (omega arith) l d in omega arith))
            k)
            tt;
      }

  pub miss-past : x.step ≡ install → cell_of m (here x).cell ≢ (here x).init → Outcome-past S T P m (exchanging (onward x fail))
  miss-past s ne =
      let g = gone_hit S T P ne (past-step_as S T P install s) in
      record {
        content = λ r c u B b o k. there k;
        cover = λ r c u B b C. replaced_on S T P (onward x fail) m.cells (follows_onward x fail) b C (omega arith) (omega (arith, C.high));
        marked = λ r ne. inl refl;
        own =
            onward-past m.cells fail s refl (was_hit (T.hit p _ (running S T P) g)) (λ e h k. k) (hit_grounds x.i (inside S install s refl) g);
      }
