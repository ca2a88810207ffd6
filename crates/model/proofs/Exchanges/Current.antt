-- What statements do to the current values: nothing, but for Commit at status 0, which changes its own cells from old to new.
use Prim.Native.Nat.{ℕ, ◌<◌}
use mathlib.Core.Bool.{Bool, true, false, ◌&&◌}
use mathlib.Core.Path.{◌≡◌, refl, sym, ◌∙◌, ap}
use mathlib.Core.Logic.{◌≢◌, ◌⊎◌, inl, inr}
use mathlib.Core.List.{List}
use native.Mathlib.Omega.{arith}
use lib.Dec.{eqb}
use lib.ListN.{length}
use borrow.Author.Tests.{eqb-true, eqb-false}
use Rattle.model.specs.Lists.{replace}
use Rattle.model.specs.Word.{Word, Memory, cell_of, status_of, saved, set_cell, set_status, set_save, current, current_of, fresh_word}
use Rattle.model.specs.Exchange.{start, commit, clean, clean_mark, install, fail, mark}
use Rattle.model.specs.Exchange.{Exchange, Exchanged, entry_at, changing, installed, cleaned}
use Rattle.model.proofs.Lists.{replace-same, replace-other, same?}
use Rattle.model.proofs.Fit.Elements.{and_left}
use Rattle.model.proofs.Exchanges.Act.{Act, exchanging, memory_after, Quiet, here}
use Rattle.model.proofs.Exchanges.Invariant.{ValidOrHeld, valid, held, Anyone, Situation, Room}
use Rattle.model.proofs.Exchanges.Words.{unchanging, own-valid, own_same, current-own, current-same, installed-new, installed-old, cleaned-new}
use Rattle.model.proofs.Exchanges.Outcome.{Decides, commits, refuses, Cleans, renews, passes, gives_back, leaves, marks-after, Outcome, starts}
use Rattle.model.proofs.Exchanges.Outcome.{tests_done, tests_on, loads, looks_own, looks_other, fetches, saves_differing, saves-to_mark, saves}
use Rattle.model.proofs.Exchanges.Outcome.{fails, marks, installs, misses, decides, decides_last, cleans, cleans_last, cleans_to_mark}
use Rattle.model.proofs.Exchanges.Frame.{Frame, frame-save, frame-status, mark_keeps, frame_mark, kept-two, current-frame, below_clear}
use Rattle.model.proofs.Exchanges.Early.{mine, at-step_as, replaced_status}
use Rattle.model.proofs.Exchanges.Statement.{save-kept}
use Rattle.model.proofs.Exchanges.Clean.{clean-entry, clean_settled}
use Rattle.model.proofs.Exchanges.Kept.{others_content}
use Rattle.model.proofs.Exchanges.Standing.{all_in_cells}

-- p in no exchange, Start among its statements
pub quiet_current : {below : ℕ → ℕ → Type 0} {m n : Memory} {acts : List Act} {p : ℕ} {v₀ : Act} → Situation below m acts p v₀ → Quiet v₀
    → n.cells ≡ m.cells → Frame p m n → (c : ℕ) → current_of n c ≡ current_of m c
quiet_current S q ec F c = rw ec (current-frame F (below_clear S) (others_content S q (S.invariant.contents c)))

pub start-current : {below : ℕ → ℕ → Type 0} {m : Memory} {acts : List Act} {p : ℕ} {v₀ : Act} → Situation below m acts p v₀ → Quiet v₀ → (c : ℕ)
    → current_of (set_status m p 0) c ≡ current_of m c
start-current {m = m} {p = p} S q c = quiet_current S q refl (frame-status p m 0) c

module _ {below : ℕ → ℕ → Type 0} {m : Memory} {acts : List Act} {p : ℕ} {x : Exchange} (S : Situation below m acts p (exchanging x)) where
  -- a content keeps its current value if p's own do
  content_current : {n : Memory} → Frame p m n → {c : ℕ} {w : Word}
      → (w.task ≡ p → (l : w.count < x.i) → (entry_at x w.count).cell ≡ c → current n.status n.saves w ≡ current m.status m.saves w)
      → ValidOrHeld Anyone acts c w → current n.status n.saves w ≡ current m.status m.saves w
  content_current {n} F {c} {w} f (valid h) =
      current-own n.status n.saves w (own-valid n.status w h) ∙ sym (current-own m.status m.saves w (own-valid m.status w h))
  content_current {n} F {c} {w} f (held o H) = same? w.task p
      (λ k. let y : H.exchange ≡ x = cc (S.act, H.at-work) in f k (rw (← y) H.high) (rw (← y) H.cell))
      (λ ne. current-frame F (λ r (k : r ≡ w.task) z. ne (sym k ∙ z)) alone)
    where
      alone : ValidOrHeld (λ r. r ≡ w.task) acts c w
      alone = held refl H

  -- the cells stay, and of p's own contents status and save places stay
  shared-current : {n : Memory} → n.cells ≡ m.cells → Frame p m n → eqb (status_of n p) 2 ≡ eqb (status_of m p) 2
      → ((e : ℕ) → e < x.i → saved n.saves p e ≡ saved m.saves p e) → (c : ℕ) → current_of n c ≡ current_of m c
  shared-current {n} ec F st sv c = rw ec (content_current F
      (λ k l d. let w = cell_of m c in
      current-same m.status n.status w m.saves n.saves (own_same m.status n.status w (rw k st)) (rw k (sv w.count l)))
      (S.invariant.contents c))

  -- one cell gets a word with the current value that it had
  cell-current : (c : ℕ) (w : Word) → c < length m.cells → current m.status m.saves w ≡ current_of m c → (d : ℕ)
      → current_of (set_cell m c w) d ≡ current_of m d
  cell-current c w l e d = same? d c
      (λ k. rw (k, replace-same (fresh_word 0) m.cells c w l) e)
      (λ ne. rw (replace-other (fresh_word 0) m.cells c d w ne))

  mark_current : (q : ℕ) → q < length m.status → status_of m q ≢ 2 → (c : ℕ) → current_of (set_status m q 1) c ≡ current_of m c
  mark_current q l ne = shared-current refl (frame_mark p m q l ne) (kept-two (mark_keeps m q l ne p)) (λ e h. refl)

  module _ (R : Room m p x.entries) where
    save-current : (v : ℕ) → (c : ℕ) → current_of (set_save m p x.i v) c ≡ current_of m c
    save-current v = shared-current refl (frame-save p m x.i v) refl (save-kept S R v)

    fail_current : x.step ≡ fail → (c : ℕ) → current_of (set_status m p 1) c ≡ current_of m c
    fail_current s = mark_current p (rw S.sizes S.task) ((mine S).not_yet (rw s))

    install_current : x.step ≡ install → cell_of m (here x).cell ≡ (here x).init → (c : ℕ)
        → current_of (set_cell m (here x).cell (installed p (here x) x.i)) c ≡ current_of m c
    install_current s h =
        let k = at-step_as S install s in
        cell-current (here x).cell (installed p (here x) x.i) (R.cells x.i ((mine S).at_entry (rw s)))
        (installed-old m.status m.saves p (here x) x.i ((mine S).not_yet (rw s)) ∙ k.found.kept-old ∙ sym k.found.was_old
        ∙ ap (λ (w : Word). current m.status m.saves w) (sym h))

    -- CLEAN, where p's word still stands
    module _ (j : ℕ) (yes? : Bool) (s : x.step ≡ clean j yes?) (h : cell_of m (entry_at x j).cell ≡ installed p (entry_at x j) j) where
      in_room : (entry_at x j).cell < length m.cells
      in_room = R.cells j (omega (arith, (mine S).within, clean-entry S j yes? s))

      clean-current : (w : Word) → current m.status m.saves w ≡ current m.status m.saves (installed p (entry_at x j) j) → (c : ℕ)
          → current_of (set_cell m (entry_at x j).cell w) c ≡ current_of m c
      clean-current w e = cell-current (entry_at x j).cell w in_room (e ∙ ap (λ (w : Word). current m.status m.saves w) (sym h))

      renew_current : (yes? && changing (entry_at x j)) ≡ true
          → current m.status m.saves (cleaned p (entry_at x j)) ≡ current m.status m.saves (installed p (entry_at x j) j)
      renew_current e =
          let st : status_of m p ≡ 2 = eqb-true _ _ (sym (at-step_as S (clean j yes?) s).1 ∙ and_left yes? _ e) in
          cleaned-new m.status m.saves p (entry_at x j) ∙ sym (installed-new m.status m.saves p (entry_at x j) j st)

      back_current : (yes? && changing (entry_at x j)) ≡ false
          → current m.status m.saves (entry_at x j).init ≡ current m.status m.saves (installed p (entry_at x j) j)
      back_current e = (clean_settled S j yes? s).found.was_old ∙ go yes? (at-step_as S (clean j yes?) s).1 e
        where
          go : (b : Bool) → b ≡ eqb (status_of m p) 2 → (b && changing (entry_at x j)) ≡ false
              → (entry_at x j).old ≡ current m.status m.saves (installed p (entry_at x j) j)
          go false k e =
              sym (installed-old m.status m.saves p (entry_at x j) j (eqb-false _ _ (sym k)) ∙ (clean_settled S j yes? s).found.kept-old)
          go true k e = unchanging (entry_at x j) e ∙ sym (installed-new m.status m.saves p (entry_at x j) j (eqb-true _ _ (sym k)))

    cleaned-current : (j : ℕ) {n : Memory} (yes? : Bool) → Cleans p m x j yes? n → (c : ℕ) → current_of n c ≡ current_of m c
    cleaned-current j yes? (renews s e h) c = clean-current j yes? s h (cleaned p (entry_at x j)) (renew_current j yes? s h e) c
    cleaned-current j yes? (passes s e h) c = refl
    cleaned-current j yes? (gives_back s e h) c = clean-current j yes? s h (entry_at x j).init (back_current j yes? s h e) c
    cleaned-current j yes? (leaves s e h o) c = refl
    cleaned-current j yes? (marks-after s) c =
        let k = at-step_as S (clean_mark j yes?) s in
        let r = replaced_status S ((mine S).settled j (rw s (omega arith)) k.0).found.loaded k.2 in
        mark_current (entry_at x j).init.task r.0 r.1 c

    decided_current : {n : Memory} {yes? : Bool} → status_of m p ≢ 0 → Decides p m n yes? → (c : ℕ) → current_of n c ≡ current_of m c
    decided_current ne (commits e) c = absurd (ne e)
    decided_current ne (refuses e) c = refl

    -- 1. every statement leaves every current value as it was, but for Commit at status 0
    pub current-kept : {o : Exchanged} → Outcome p m x o → (x.step ≡ commit → status_of m p ≢ 0) → (c : ℕ)
        → current_of (memory_after o) c ≡ current_of m c
    current-kept (starts s) ne c = absurd (at-step_as S start s)
    current-kept (tests_done s h) ne c = refl
    current-kept (tests_on s h) ne c = refl
    current-kept (loads s) ne c = refl
    current-kept (looks_own s w) ne c = refl
    current-kept (looks_other s w) ne c = refl
    current-kept (fetches s) ne c = refl
    current-kept (saves_differing v s d) ne c = save-current v c
    current-kept (saves-to_mark v s d o g) ne c = save-current v c
    current-kept (saves v s d u) ne c = save-current v c
    current-kept (fails s) ne c = fail_current s c
    current-kept (marks s) ne c =
        let h = at-step_as S mark s in let r = replaced_status S h.0.loaded h.1 in mark_current (here x).init.task r.0 r.1 c
    current-kept (installs s h) ne c = install_current s h c
    current-kept (misses s h) ne c = refl
    current-kept (decides s d i) ne c = decided_current (ne s) d c
    current-kept (decides_last s d i) ne c = decided_current (ne s) d c
    current-kept (cleans j yes? g i) ne c = cleaned-current j yes? g c
    current-kept (cleans_last j yes? g i) ne c = cleaned-current j yes? g c
    current-kept (cleans_to_mark j yes? s e h o) ne c = refl

  -- 2. Commit at status 0: all entries are installed, and their cells go from old to new
  module _ (s : x.step ≡ commit) (st : status_of m p ≡ 0) where
    pub commit-all : x.i ≡ length x.entries
    commit-all = go (at-step_as S commit s)
      where
        go : (x.i ≡ length x.entries) ⊎ (status_of m p ≢ 0) → x.i ≡ length x.entries
        go (inl e) = e
        go (inr ne) = absurd (ne st)

    pub commit-installed : (e : ℕ) → e < length x.entries → cell_of m (entry_at x e).cell ≡ installed p (entry_at x e) e
    commit-installed e l = all_in_cells S (rw s) st e (rw commit-all l)

    pub commit-old : (e : ℕ) → e < length x.entries → current_of m (entry_at x e).cell ≡ (entry_at x e).old
    commit-old e l =
        rw (commit-installed e l)
        (installed-old m.status m.saves p (entry_at x e) e ((mine S).not_yet (rw s))
        ∙ ((mine S).settled e (rw s (omega arith)) (rw commit-all l)).found.kept-old)

    pub commit-new : (e : ℕ) → e < length x.entries → current_of (set_status m p 2) (entry_at x e).cell ≡ (entry_at x e).new
    commit-new e l =
        rw (commit-installed e l)
        (installed-new (replace m.status p 2) m.saves p (entry_at x e) e (replace-same 0 m.status p 2 (rw S.sizes S.task)))

    pub commit_others : (c : ℕ) → ((e : ℕ) → e < length x.entries → (entry_at x e).cell ≢ c) → current_of (set_status m p 2) c ≡ current_of m c
    commit_others c ne =
        content_current (frame-status p m 2) (λ k l d. absurd (ne (cell_of m c).count (rw commit-all at l) d)) (S.invariant.contents c)
