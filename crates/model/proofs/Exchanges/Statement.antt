-- Test, Load, Look, Fetch, Save, Fail, Mark and Install keep the contents of the cells and what the tasks know.
use Prim.Native.Nat.{ℕ, ◌<◌}
use mathlib.Core.Bool.{Bool, true, false, not, ◌&&◌}
use mathlib.Core.Path.{◌≡◌, refl, sym, ◌∙◌, ap}
use mathlib.Core.Logic.{◌≢◌, ◌⊎◌, inl, inr}
use mathlib.Core.List.{List, []}
use native.Mathlib.Omega.{arith}
use lib.ListN.{length}
use borrow.Author.Tests.{not-true}
use Rattle.model.specs.Lists.{at, replace}
use Rattle.model.specs.Word.{Memory, cell_of, status_of, saved, set_cell, set_status, set_save, own, fresh_word}
use Rattle.model.specs.Exchange.{Entry, Step, test, load, look, fetch, fail, mark, install, commit}
use Rattle.model.specs.Exchange.{save, Exchange, changing, installed, to, onward, with_init, init_loaded}
use Rattle.model.proofs.Lists.{replace-same, replace-other, same?, impossible}
use Rattle.model.proofs.Exchanges.Act.{Act, exchanging, working, stage_of, undecided, uncleaned, here}
use Rattle.model.proofs.Exchanges.Invariant.{ValidOrHeld, held, Anyone, Loaded, FoundOld, AtStep, InExchange, Situation, Room}
use Rattle.model.proofs.Exchanges.Words.{current-own, current-other, changes, unchanging}
use Rattle.model.proofs.Exchanges.Frame.{frame-none, frame-cell, frame-save, frame-status, frame_mark, mark_keeps, kept-not-two}
use Rattle.model.proofs.Exchanges.Frame.{move_content, current-frame, loaded-frame, found-frame, settled_frame, Moved, below_clear}
use Rattle.model.proofs.Exchanges.Early.{follows_to, follows_onward, noted_here, follows_noted, from_zero, mine, inside, at-step_as}
use Rattle.model.proofs.Exchanges.Early.{keep_content, held_on, loaded_content, replaced_status, early_moved, early_quiet}

module _ {below : ℕ → ℕ → Type 0} {m : Memory} {acts : List Act} {p : ℕ} {x : Exchange} (S : Situation below m acts p (exchanging x)) where
  pub test_done-moved : x.step ≡ test → (x.i ≡ length x.entries) ⊎ (status_of m p ≡ 1) → Moved below m m acts p (exchanging (to x commit))
  test_done-moved s h = early_quiet S (to x commit) (follows_to x commit) refl (rw s) refl (λ w. impossible (cc)) (go h)
    where
      go : (x.i ≡ length x.entries) ⊎ (status_of m p ≡ 1) → (x.i ≡ length x.entries) ⊎ (status_of m p ≢ 0)
      go (inl e) = inl e
      go (inr e) = inr (omega arith)

  pub test_on-moved : x.step ≡ test → x.i ≢ length x.entries → Moved below m m acts p (exchanging (to x load))
  test_on-moved s ne = early_quiet S (to x load) (follows_to x load) refl (rw s) refl (λ _. omega (arith, (mine S).within)) tt

  pub load_moved : x.step ≡ load → Moved below m m acts p (exchanging (init_loaded x (cell_of m (here x).cell) false look))
  load_moved s =
      let l = inside S load s refl in
      let x' = init_loaded x (cell_of m (here x).cell) false look in
      early_quiet S x' (follows_noted x _ false look l) refl (rw s) refl (λ _. l)
      (rw (noted_here x _ false look l) (move_content p (exchanging x') (below_clear S) (loaded_content S l (S.invariant.contents (here x).cell))))

  looked_moved : (o : Bool) (s : Step) → x.step ≡ look → own m.status (here x).init ≡ not o → undecided (stage_of s) ≡ true
      → (Loaded (λ r. below r p) m.status (replace acts p (exchanging (init_loaded x (here x).init o s))) (with_init (here x) (here x).init o)
      → AtStep (λ r. below r p) m.status m.saves (replace acts p (exchanging (init_loaded x (here x).init o s))) p
      (init_loaded x (here x).init o s) s)
      → Moved below m m acts p (exchanging (init_loaded x (here x).init o s))
  looked_moved o s e w u' h =
      let l = inside S look e refl in
      let x' = init_loaded x (here x).init o s in
      early_quiet S x' (follows_noted x _ o s l) refl (rw e) u' (λ _. l)
      (h (record { valid_or_held = move_content p (exchanging x') (below_clear S) (at-step_as S look e); looked = sym (double o) ∙ ap not (sym w) }))
    where
      double : (b : Bool) → not (not b) ≡ b
      double true = refl
      double false = refl

  pub look-own-moved : x.step ≡ look → own m.status (here x).init ≡ true
      → Moved below m m acts p (exchanging (init_loaded x (here x).init false (save (here x).init.value)))
  look-own-moved s w =
      let l = inside S look s refl in
      looked_moved false (save (here x).init.value) s w refl
      (λ L. rw (noted_here x (here x).init false (save (here x).init.value) l) (L, sym (current-own m.status m.saves (here x).init w)))

  pub look-other-moved : x.step ≡ look → own m.status (here x).init ≡ false
      → Moved below m m acts p (exchanging (init_loaded x (here x).init true fetch))
  look-other-moved s w =
      let l = inside S look s refl in looked_moved true fetch s w refl (λ L. rw (noted_here x (here x).init true fetch l) (L, refl))

  pub fetch_moved : x.step ≡ fetch → Moved below m m acts p (exchanging (to x (save (saved m.saves (here x).init.task (here x).init.count))))
  fetch_moved s =
      let h = at-step_as S fetch s in
      let w : own m.status (here x).init ≡ false = not-true _ (sym h.0.looked ∙ h.1) in
      early_quiet S (to x (save _)) (follows_to x (save _)) refl (rw s) refl (λ _. inside S fetch s refl)
      (loaded-frame (frame-none p m) (exchanging (to x (save _))) acts (below_clear S) h.0, sym (current-other m.status m.saves (here x).init w))

  pub fail_moved : x.step ≡ fail → Moved below m (set_status m p 1) acts p (exchanging (to x test))
  fail_moved s =
      early_moved S (to x test) (follows_to x test) refl (rw s) refl refl (frame-status p m 1) (λ e h. refl)
      (rw (replace-same 0 m.status p 1 (rw S.sizes S.task)) (omega arith)) (λ w. impossible (cc)) tt

  pub mark_moved : x.step ≡ mark → Moved below m (set_status m (here x).init.task 1) acts p (exchanging (to x install))
  mark_moved s =
      let h = at-step_as S mark s in
      let r = replaced_status S h.0.loaded h.1 in
      let q = (here x).init.task in
      let F = frame_mark p m q r.0 r.1 in
      early_moved S (to x install) (follows_to x install) refl (rw s) refl refl F (λ e l. refl)
      (kept-not-two (mark_keeps m q r.0 r.1 p) ((mine S).not_yet (rw s))) (λ _. inside S mark s refl)
      (record { found = found-frame F (exchanging (to x install)) acts (below_clear S) refl h.0; marked = λ o d. replace-same 0 m.status q 1 r.0 })

  -- SAVE
  module _ (R : Room m p x.entries) where
    pub save-kept : (v e : ℕ) → e < x.i → saved (set_save m p x.i v).saves p e ≡ saved m.saves p e
    save-kept v e h =
        rw (replace-same [] m.saves p (replace (at [] m.saves p) x.i v) R.saves)
        (replace-other 0 (at [] m.saves p) x.i e v (omega arith))

    save-new : (v : ℕ) → x.i < length x.entries → saved (set_save m p x.i v).saves p x.i ≡ v
    save-new v l =
        rw (replace-same [] m.saves p (replace (at [] m.saves p) x.i v) R.saves)
        (replace-same 0 (at [] m.saves p) x.i v (omega (arith, R.places)))

    save-moved : (v : ℕ) (s : Step) → x.step ≡ save v → undecided (stage_of s) ≡ true
        → AtStep (λ r. below r p) m.status (set_save m p x.i v).saves (replace acts p (exchanging (to x s))) p (to x s) s
        → Moved below m (set_save m p x.i v) acts p (exchanging (to x s))
    save-moved v s e l0 h =
        early_moved S (to x s) (follows_to x s) refl (rw e) l0 refl (frame-save p m x.i v) (save-kept v) ((mine S).not_yet (rw e))
        (λ _. inside S (save v) e refl) h

    -- the value found is the old one
    save-found : (v : ℕ) (s : Step) → x.step ≡ save v → v ≡ (here x).old
        → FoundOld (λ r. below r p) m.status (set_save m p x.i v).saves (replace acts p (exchanging (to x s))) p (here x) x.i
    save-found v s e d =
        let h = at-step_as S (save v) e in
        let F = frame-save p m x.i v in
        record {
          loaded = loaded-frame F (exchanging (to x s)) acts (below_clear S) h.0;
          was_old = current-frame F (below_clear S) h.0.valid_or_held ∙ sym h.1 ∙ d;
          kept-old = save-new v (inside S (save v) e refl) ∙ d;
        }

    pub save_differing_moved : (v : ℕ) → x.step ≡ save v → Moved below m (set_save m p x.i v) acts p (exchanging (to x fail))
    save_differing_moved v e = save-moved v fail e refl tt

    pub save-to_mark_moved : (v : ℕ) → x.step ≡ save v → v ≡ (here x).old → (here x).overlapped ≡ true → changing (here x) ≡ true
        → Moved below m (set_save m p x.i v) acts p (exchanging (to x mark))
    save-to_mark_moved v e d o c = save-moved v mark e refl (save-found v mark e d, o, changes (here x) c)

    pub save-on-moved : (v : ℕ) → x.step ≡ save v → v ≡ (here x).old → ((here x).overlapped && changing (here x)) ≡ false
        → Moved below m (set_save m p x.i v) acts p (exchanging (to x install))
    save-on-moved v e d u =
        save-moved v install e refl (record { found = save-found v install e d; marked = λ o ne. absurd (needed (here x) o ne u) })
      where
        needed : (n : Entry) → n.overlapped ≡ true → n.old ≢ n.new → (n.overlapped && changing n) ≡ false → ⊥
        needed n o ne u = ne (unchanging n (rw o at u))

  -- INSTALL, the word written or not: entry i is settled, and the exchange goes on to the next
  installed_knows : (s : Step) → x.step ≡ install → uncleaned (stage_of s) ≡ 0 → (stage_of s ≡ working → ⊥)
      → AtStep (λ r. below r p) m.status m.saves (replace acts p (exchanging (onward x s))) p (onward x s) s
      → InExchange (λ r. below r p) m.status m.saves (replace acts p (exchanging (onward x s))) p (onward x s)
  installed_knows s e l0 w h =
      let F = frame-none p m in
      let l = inside S install e refl in
      record {
        within = l;
        at_entry = λ k. absurd (w k);
        distinct = (mine S).distinct;
        settled = λ g lo hi. same? g x.i
            (λ k. rw k (settled_frame F (exchanging (onward x s)) acts (below_clear S) refl (at-step_as S install e)))
            (λ ne. settled_frame F (exchanging (onward x s)) acts (below_clear S) refl ((mine S).settled g (from_zero (rw e) g) (omega arith)));
        not_yet = λ _. (mine S).not_yet (rw e);
        at-step = h;
      }

  onward_content : (s : Step) → uncleaned (stage_of s) ≡ 0 → (c : ℕ) → ValidOrHeld Anyone (replace acts p (exchanging (onward x s))) c (cell_of m c)
  onward_content s l0 c =
      keep_content S (exchanging (onward x s)) (λ e l h d i. held_on S (onward x s) (follows_onward x s) e (from_zero l0 e) (omega arith) d)
      (S.invariant.contents c)

  pub miss-moved : x.step ≡ install → Moved below m m acts p (exchanging (onward x fail))
  miss-moved e = record { frame = frame-none p m; contents = onward_content fail refl; knows = installed_knows fail e refl (λ w. impossible (cc)) tt }

  pub install_moved : Room m p x.entries → x.step ≡ install
      → Moved below m (set_cell m (here x).cell (installed p (here x) x.i)) acts p (exchanging (onward x test))
  install_moved R e =
      let l = inside S install e refl in
      let w = installed p (here x) x.i in
      record {
        frame = frame-cell p m (here x).cell w;
        contents = λ c. same? c (here x).cell
            (λ k.
            rw (k, replace-same (fresh_word 0) m.cells (here x).cell w (R.cells x.i l))
            (held tt (held_on S (onward x test) (follows_onward x test) x.i (omega arith) (omega arith) refl)))
            (λ ne. rw (replace-other (fresh_word 0) m.cells (here x).cell c w ne) (onward_content test refl c));
        knows = installed_knows test e refl (λ w. impossible (cc)) tt;
      }
