-- Commit and Clean keep the contents of the cells and what the tasks know.
use Prim.Native.Nat.{ℕ, suc, ◌<◌, ◌≤◌}
use mathlib.Core.Bool.{Bool, true, false, true≢false}
use mathlib.Core.Path.{◌≡◌, refl, sym, ◌∙◌, ap}
use mathlib.Core.Logic.{◌≢◌}
use mathlib.Core.List.{List}
use native.Mathlib.Omega.{arith}
use lib.Dec.{eqb}
use borrow.Author.Tests.{ne_eqb}
use Rattle.model.specs.Lists.{at, replace}
use Rattle.model.specs.Word.{Word, Memory, cell_of, status_of, saved, set_cell, fresh_word}
use Rattle.model.specs.Exchange.{Step, commit, clean, clean_mark, Exchange, entry_at, installed, cleaned, to}
use Rattle.model.proofs.Lists.{replace-same, replace-other, same?}
use Rattle.model.proofs.Exchanges.Act.{Act, free, exchanging, stage_of, stage, undecided, uncleaned, covering}
use Rattle.model.proofs.Exchanges.Invariant.{ValidOrHeld, valid, held, Anyone, Settled, AtStep, Situation, Room}
use Rattle.model.proofs.Exchanges.Outcome.{Decides, commits, refuses, Cleans, renews, passes, gives_back, leaves, marks-after}
use Rattle.model.proofs.Exchanges.Frame.{Frame, frame-none, frame-cell, frame-status, frame_mark}
use Rattle.model.proofs.Exchanges.Frame.{mark_keeps, kept-two, settled_frame, Moved, below_clear}
use Rattle.model.proofs.Exchanges.Early.{follows_to, from_zero, mine, at-step_as, keep_content, held_on, replaced_status}

-- what a statement of p from Commit on leaves: the save places, and a status that shows the answer
pub record Answered (p : ℕ) (m n : Memory) (yes? : Bool) : Type 0 where
  pub frame : Frame p m n
  pub saves : (e : ℕ) → saved n.saves p e ≡ saved m.saves p e
  pub answer : yes? ≡ eqb (status_of n p) 2

module _ {below : ℕ → ℕ → Type 0} {m : Memory} {acts : List Act} {p : ℕ} {x : Exchange} (S : Situation below m acts p (exchanging x)) where
  -- the exchange goes on to step s of Clean, all contents being well formed and those of p not behind s
  cleaning-moved : {n : Memory} {yes? : Bool} (s : Step) → Answered p m n yes? → undecided (stage_of s) ≡ false
      → covering (stage x) ≤ covering (stage_of s)
      → ((c : ℕ) → ValidOrHeld Anyone acts c (cell_of n c))
      → ((c e : ℕ) → uncleaned (stage x) ≤ e → (entry_at x e).cell ≡ c → cell_of n c ≡ installed p (entry_at x e) e → uncleaned (stage_of s) ≤ e)
      → AtStep (λ r. below r p) n.status n.saves (replace acts p (exchanging (to x s))) p (to x s) s
      → Moved below m n acts p (exchanging (to x s))
  cleaning-moved s A u le contents past h =
      record {
        frame = A.frame;
        contents = λ c. keep_content S (exchanging (to x s)) (λ e l g d i. held_on S (to x s) (follows_to x s) e (past c e l d i) g d) (contents c);
        knows = record {
          within = (mine S).within;
          at_entry = λ k. absurd (true≢false (sym (ap undecided k) ∙ u));
          distinct = (mine S).distinct;
          settled = λ e l g. settled_frame A.frame (exchanging (to x s)) acts (below_clear S) (A.saves e) ((mine S).settled e (omega arith) g);
          not_yet = λ k. absurd (true≢false (sym k ∙ u));
          at-step = h;
        };
      }

  -- the exchange ends: no content is p's
  ending-moved : {n : Memory} {yes? : Bool} → Answered p m n yes? → ((c : ℕ) → ValidOrHeld Anyone acts c (cell_of n c))
      → ((c e : ℕ) → uncleaned (stage x) ≤ e → e < x.i → (entry_at x e).cell ≡ c → cell_of n c ≡ installed p (entry_at x e) e → ⊥)
      → Moved below m n acts p free
  ending-moved A contents none =
      record { frame = A.frame; contents = λ c. keep_content S free (λ e l g d i. absurd (none c e l g d i)) (contents c); knows = tt }

  -- COMMIT
  pub decided : {n : Memory} {yes? : Bool} → x.step ≡ commit → Decides p m n yes? → Answered p m n yes?
  decided s (commits e) =
      record { frame = frame-status p m 2; saves = λ e. refl; answer = rw (replace-same 0 m.status p 2 (rw S.sizes S.task)) }
  decided s (refuses e) = record { frame = frame-none p m; saves = λ e. refl; answer = sym (ne_eqb (status_of m p) 2 ((mine S).not_yet (rw s))) }

  pub decided_cells : {n : Memory} {yes? : Bool} → Decides p m n yes? → n.cells ≡ m.cells
  decided_cells (commits e) = refl
  decided_cells (refuses e) = refl

  pub decides_moved : {n : Memory} {yes? : Bool} → x.step ≡ commit → Decides p m n yes? → x.i ≢ 0
      → Moved below m n acts p (exchanging (to x (clean 0 yes?)))
  decides_moved {yes? = yes?} s d ne =
      cleaning-moved (clean 0 yes?) (decided s d) refl (from_zero (rw s) 0) (λ c. rw (decided_cells d) (S.invariant.contents c))
      (λ c e l k i. omega arith) (omega arith, (decided s d).answer)

  pub decides_last-moved : {n : Memory} {yes? : Bool} → x.step ≡ commit → Decides p m n yes? → x.i ≡ 0 → Moved below m n acts p free
  decides_last-moved s d z =
      ending-moved (decided s d) (λ c. rw (decided_cells d) (S.invariant.contents c)) (λ c e l (h : e < x.i) k i. omega arith)

  -- CLEAN of entry j: what is left is well formed, and no longer p's entry j
  pub record CleanedAt (j : ℕ) (yes? : Bool) (n : Memory) : Type 0 where
    pub entry_done : j < x.i
    pub low : covering (stage x) ≤ suc j
    pub answered : Answered p m n yes?
    pub contents : (c : ℕ) → ValidOrHeld Anyone acts c (cell_of n c)
    pub past : (c e : ℕ) → uncleaned (stage x) ≤ e → (entry_at x e).cell ≡ c → cell_of n c ≡ installed p (entry_at x e) e → suc j ≤ e

  pub cleans_moved : {n : Memory} (j : ℕ) (yes? : Bool) → CleanedAt j yes? n → suc j ≢ x.i
      → Moved below m n acts p (exchanging (to x (clean (suc j) yes?)))
  cleans_moved j yes? C ne =
      cleaning-moved (clean (suc j) yes?) C.answered refl C.low C.contents C.past (omega (arith, C.entry_done), C.answered.answer)

  pub cleans_last-moved : {n : Memory} (j : ℕ) (yes? : Bool) → CleanedAt j yes? n → suc j ≡ x.i → Moved below m n acts p free
  cleans_last-moved j yes? C k = ending-moved C.answered C.contents (λ c e l h d i. omega (arith, C.past c e l d i))

  weaken : {c : ℕ} {w : Word} → ValidOrHeld (λ r. below r p) acts c w → ValidOrHeld Anyone acts c w
  weaken (valid h) = valid h
  weaken (held b H) = held tt H

  module _ (j : ℕ) (yes? : Bool) (s : x.step ≡ clean j yes?) where
    pub clean-entry : j < x.i
    clean-entry = (at-step_as S (clean j yes?) s).0

    pub clean_settled : Settled (λ r. below r p) m.status m.saves acts p (entry_at x j) j
    clean_settled = (mine S).settled j (rw s (omega arith)) clean-entry

    pub not_mine : {w : Word} → ValidOrHeld (λ r. below r p) acts (entry_at x j).cell w → w ≢ installed p (entry_at x j) j
    not_mine (valid h) k = true≢false (sym h ∙ ap (λ (w : Word). w.valid) k)
    not_mine {w} (held b H) k = below_clear S w.task b (ap (λ (w : Word). w.task) k)

    -- an entry of p that a word still stands for is past j, if the word at j's cell is not what p installed
    past_by : (cells : List Word) → at (fresh_word 0) cells (entry_at x j).cell ≢ installed p (entry_at x j) j
        → (c e : ℕ) → uncleaned (stage x) ≤ e → (entry_at x e).cell ≡ c → at (fresh_word 0) cells c ≡ installed p (entry_at x e) e → suc j ≤ e
    past_by cells gone c e l d i =
        let lj : j ≤ e = rw s at l in
        same? e j
        (λ k. absurd (gone (ap (λ (z : ℕ). at (fresh_word 0) cells z) (rw k at d) ∙ (rw k at i))))
        (λ ne. omega arith)

    clean-same : Answered p m m yes?
    clean-same = record { frame = frame-none p m; saves = λ e. refl; answer = (at-step_as S (clean j yes?) s).1 }

    cleaned-none : cell_of m (entry_at x j).cell ≢ installed p (entry_at x j) j → CleanedAt j yes? m
    cleaned-none gone =
        record { entry_done = clean-entry; low = rw s (omega arith); answered = clean-same; contents = S.invariant.contents; past = past_by m.cells gone }

    cleaned-cell : Room m p x.entries → (w : Word) → ValidOrHeld (λ r. below r p) acts (entry_at x j).cell w
        → CleanedAt j yes? (set_cell m (entry_at x j).cell w)
    cleaned-cell R w h =
        let c₀ = (entry_at x j).cell in
        let k : at (fresh_word 0) (replace m.cells c₀ w) c₀ ≡ w =
        replace-same (fresh_word 0) m.cells c₀ w (R.cells j (omega (arith, (mine S).within, clean-entry))) in
        record {
          entry_done = clean-entry;
          low = rw s (omega arith);
          answered = record { frame = frame-cell p m c₀ w; saves = λ e. refl; answer = (at-step_as S (clean j yes?) s).1 };
          contents =
              λ c. same? c c₀ (λ d. rw (d, k) (weaken h)) (λ ne. rw (replace-other (fresh_word 0) m.cells c₀ c w ne) (S.invariant.contents c));
          past = past_by (replace m.cells c₀ w) (λ i. not_mine h (sym k ∙ i));
        }

    pub cleans_to_mark_moved : cell_of m (entry_at x j).cell ≢ installed p (entry_at x j) j → (entry_at x j).overlapped ≡ true
        → Moved below m m acts p (exchanging (to x (clean_mark j yes?)))
    cleans_to_mark_moved gone o =
        cleaning-moved (clean_mark j yes?) clean-same refl (rw s (omega arith)) S.invariant.contents (past_by m.cells gone)
        (clean-entry, (at-step_as S (clean j yes?) s).1, o)

  pub cleaned-at : (j : ℕ) {n : Memory} (yes? : Bool) → Room m p x.entries → Cleans p m x j yes? n → CleanedAt j yes? n
  cleaned-at j yes? R (renews s e h) = cleaned-cell j yes? s R (cleaned p (entry_at x j)) (valid refl)
  cleaned-at j yes? R (passes s e h) = cleaned-none j yes? s h
  cleaned-at j yes? R (gives_back s e h) = cleaned-cell j yes? s R (entry_at x j).init (clean_settled j yes? s).found.loaded.valid_or_held
  cleaned-at j yes? R (leaves s e h o) = cleaned-none j yes? s h
  cleaned-at j yes? R (marks-after s) =
      let h = at-step_as S (clean_mark j yes?) s in
      let r = replaced_status S ((mine S).settled j (rw s (omega arith)) h.0).found.loaded h.2 in
      let q = (entry_at x j).init.task in
      record {
        entry_done = h.0;
        low = rw s (omega arith);
        answered =
            record { frame = frame_mark p m q r.0 r.1; saves = λ e. refl; answer = h.1 ∙ sym (kept-two (mark_keeps m q r.0 r.1 p)) };
        contents = S.invariant.contents;
        past = λ c e l d i. rw s at l;
      }
