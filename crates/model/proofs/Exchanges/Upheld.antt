-- Every outcome of an exchange's tick upholds what stands.
use Prim.Native.Nat.{ℕ, suc, ◌<◌}
use mathlib.Core.Bool.{Bool, true, false, not, ◌&&◌, true≢false}
use mathlib.Core.Path.{◌≡◌, refl, sym, ◌∙◌, ap}
use mathlib.Core.Logic.{◌≢◌}
use mathlib.Core.List.{List}
use native.Mathlib.Omega.{arith}
use Rattle.model.specs.Word.{Word, Memory, cell_of, status_of, set_cell, fresh_word}
use Rattle.model.specs.Exchange.{Step, start, test, load, look, fetch, fail, mark, install, commit, save, clean}
use Rattle.model.specs.Exchange.{clean_mark, Exchange, Exchanged, entry_at, changing, installed, to, onward}
use Rattle.model.proofs.Lists.{replace-same, replace-other, same?}
use Rattle.model.proofs.Fit.Elements.{and_right}
use Rattle.model.proofs.Exchanges.Act.{Act, free, exchanging, act_after, memory_after, stage_of, stage, hopeful, covering, here}
use Rattle.model.proofs.Exchanges.Invariant.{Covers, Situation, Room}
use Rattle.model.proofs.Exchanges.Words.{changes, not-counting}
use Rattle.model.proofs.Exchanges.Outcome.{Cleans, renews, passes, gives_back, leaves, marks-after, Outcome, starts, tests_done}
use Rattle.model.proofs.Exchanges.Outcome.{tests_on, loads, looks_own, looks_other, fetches, saves_differing, saves-to_mark, saves}
use Rattle.model.proofs.Exchanges.Outcome.{fails, marks, installs, misses, decides, decides_last, cleans, cleans_last, cleans_to_mark}
use Rattle.model.proofs.Exchanges.Frame.{mark_keeps, kept-zero, below_clear}
use Rattle.model.proofs.Exchanges.Early.{Follows, follows_to, follows_noted, mine, at-step_as, replaced_status}
use Rattle.model.proofs.Exchanges.Clean.{decided_cells, clean-entry, clean_settled}
use Rattle.model.proofs.Exchanges.Standing.{Keeps, stays, taken, Lower, Upholds, all_in_cells}

zero-not-two : {s : ℕ} → s ≡ 0 → s ≢ 2
zero-not-two h = omega arith

module _ {below : ℕ → ℕ → Type 0} {m : Memory} {acts : List Act} {p : ℕ} {x : Exchange} (S : Situation below m acts p (exchanging x)) where
  -- no cell is changed, and the exchange goes on answering for the same entries
  same_upholds : {n : Memory} (x' : Exchange) → Follows x x' → x'.i ≡ x.i → covering (stage x') ≡ covering (stage x) → n.cells ≡ m.cells
      → (hopeful (stage x') ≡ true → status_of n p ≡ 0 → (hopeful (stage x) ≡ true) × (status_of m p ≡ 0))
      → Upholds below m n p (exchanging x) (exchanging x')
  same_upholds x' f ei l ec g =
      record {
        content = λ c u L h. stays (rw ec h);
        cover = λ u L C. taken (record {
          number = C.number;
          low = rw l C.low;
          high = rw ei C.high;
          overlapped = rw (f.done C.number C.high) C.overlapped;
          init = rw (f.done C.number C.high) C.init;
        });
        own = λ k st e h.
            let h' : e < x.i = rw ei at h in
            let z = g k st in
            rw (f.done e h', ec) (all_in_cells S z.0 z.1 e h');
      }

  -- the next step is one from which yes is no longer possible
  hopeless_upholds : {n : Memory} (s : Step) → covering (stage_of s) ≡ covering (stage x) → hopeful (stage_of s) ≡ false → n.cells ≡ m.cells
      → Upholds below m n p (exchanging x) (exchanging (to x s))
  hopeless_upholds s l no-hope ec = same_upholds (to x s) (follows_to x s) refl l ec (λ k st. absurd (true≢false (sym k ∙ no-hope)))

  -- INSTALL
  onward_cover : {n : Memory} (s : Step) → covering (stage_of s) ≡ 0 → (u : Word) (C : Covers x u)
      → Keeps n (exchanging (onward x s)) (entry_at x C.number).cell u
  onward_cover s l u C =
      taken (record { number = C.number; low = rw l (omega arith); high = omega (arith, C.high); overlapped = C.overlapped; init = C.init })

  install_upholds : Room m p x.entries → x.step ≡ install → cell_of m (here x).cell ≡ (here x).init
      → Upholds below m (set_cell m (here x).cell (installed p (here x) x.i)) p (exchanging x) (exchanging (onward x test))
  install_upholds R s h =
      let w = installed p (here x) x.i in
      let l = (mine S).at_entry (rw s) in
      record {
        content = λ c u L k. same? c (here x).cell
            (λ d.
            let i : (here x).init ≡ u = sym h ∙ ap (λ (z : ℕ). cell_of m z) (sym d) ∙ k in
            taken (record {
              number = x.i;
              low = omega arith;
              high = omega arith;
              overlapped =
                  (at-step_as S install s).found.loaded.looked
                  ∙ ap not (not-counting m.status (here x).init (rw i L.not_valid) (rw i (zero-not-two L.unmarked)));
              init = i;
            }))
            (λ ne. stays (rw (replace-other (fresh_word 0) m.cells (here x).cell c w ne) k));
        cover = λ u L C. onward_cover test refl u C;
        own = λ k st e g. same? e x.i
            (λ d. rw (d, replace-same (fresh_word 0) m.cells (here x).cell w (R.cells x.i l)))
            (λ ne.
            rw (replace-other (fresh_word 0) m.cells (here x).cell (entry_at x e).cell w (λ d. ne ((mine S).distinct e x.i (omega arith) l d)))
            (all_in_cells S (rw s) st e (omega arith)));
      }

  miss_upholds : x.step ≡ install → Upholds below m m p (exchanging x) (exchanging (onward x fail))
  miss_upholds s =
      record { content = λ c u L h. stays h; cover = λ u L C. onward_cover fail refl u C; own = λ (k : false ≡ true) st e h. absurd (true≢false (sym k)) }

  -- CLEAN of entry j: contents of lower tasks stay, and what j replaced is back in its cell
  record Returns (j : ℕ) (n : Memory) : Type 0 where
    at_entry : covering (stage x) ≡ j
    keep : (c : ℕ) (u : Word) → Lower below n p u → cell_of m c ≡ u → cell_of n c ≡ u
    back : (u : Word) → Lower below n p u → (entry_at x j).overlapped ≡ true → (entry_at x j).init ≡ u → cell_of n (entry_at x j).cell ≡ u

  cleans_upholds : {n : Memory} (j : ℕ) (yes? : Bool) → Returns j n → Upholds below m n p (exchanging x) (exchanging (to x (clean (suc j) yes?)))
  cleans_upholds j yes? B =
      record {
        content = λ c u L h. stays (B.keep c u L h);
        cover = λ u L C. same? C.number j
            (λ k. stays (rw k (B.back u L (rw k at C.overlapped) (rw k at C.init))))
            (λ ne. taken (record { number = C.number; low = omega (arith, C.low, B.at_entry); high = C.high; overlapped = C.overlapped; init = C.init }));
        own = λ (k : false ≡ true) st e h. absurd (true≢false (sym k));
      }

  cleans_last_upholds : {n : Memory} (j : ℕ) → Returns j n → suc j ≡ x.i → Upholds below m n p (exchanging x) free
  cleans_last_upholds j B last =
      record {
        content = λ c u L h. stays (B.keep c u L h);
        cover = λ u L C.
            let k : C.number ≡ j = omega (arith, C.low, C.high, B.at_entry) in
            stays (rw k (B.back u L (rw k at C.overlapped) (rw k at C.init)));
        own = tt;
      }

  module _ (j : ℕ) (yes? : Bool) (s : x.step ≡ clean j yes?) where
    -- a store to a cell where p's word stands hides no lower content
    own-cell : (v : Word) → cell_of m (entry_at x j).cell ≡ installed p (entry_at x j) j → (c : ℕ) (u : Word) → below u.task p → cell_of m c ≡ u
        → cell_of (set_cell m (entry_at x j).cell v) c ≡ u
    own-cell v h c u b k = same? c (entry_at x j).cell
        (λ d.
        let i : installed p (entry_at x j) j ≡ u = sym h ∙ ap (λ (z : ℕ). cell_of m z) (sym d) ∙ k in
        absurd (below_clear S u.task b (sym (ap (λ (w : Word). w.task) i))))
        (λ ne. rw (replace-other (fresh_word 0) m.cells (entry_at x j).cell c v ne) k)

    -- on yes a changing pair has marked the task of the word that it replaced
    was_marked : {P : Type 0} → (yes? && changing (entry_at x j)) ≡ true → (u : Word) → status_of m u.task ≡ 0 → (entry_at x j).overlapped ≡ true
        → (entry_at x j).init ≡ u → P
    was_marked e u st o i =
        let k = (clean_settled S j yes? s).marked o (changes (entry_at x j) (and_right yes? _ e)) in
        absurd (omega (arith, rw i at k))

  returns : (j : ℕ) {n : Memory} (yes? : Bool) → Room m p x.entries → Cleans p m x j yes? n → Returns j n
  returns j yes? R (renews s e h) =
      record { at_entry = rw s; keep = λ c u L k. own-cell j yes? s _ h c u L.task k; back = λ u L o i. was_marked j yes? s e u L.unmarked o i }
  returns j yes? R (passes s e h) = record { at_entry = rw s; keep = λ c u L k. k; back = λ u L o i. was_marked j yes? s e u L.unmarked o i }
  returns j yes? R (gives_back s e h) =
      record {
        at_entry = rw s;
        keep = λ c u L k. own-cell j yes? s _ h c u L.task k;
        back = λ u L o i.
            replace-same (fresh_word 0) m.cells (entry_at x j).cell (entry_at x j).init
            (R.cells j (omega (arith, (mine S).within, clean-entry S j yes? s)))
            ∙ i;
      }
  returns j yes? R (leaves s e h o) = record { at_entry = rw s; keep = λ c u L k. k; back = λ u L o' i. absurd (true≢false (sym o' ∙ o)) }
  returns j yes? R (marks-after s) =
      let h = at-step_as S (clean_mark j yes?) s in
      let r = replaced_status S ((mine S).settled j (rw s (omega arith)) h.0).found.loaded h.2 in
      record {
        at_entry = rw s;
        keep = λ c u L k. k;
        back = λ u L o i. absurd (omega (arith, rw (← i, replace-same 0 m.status (entry_at x j).init.task 1 r.0) at L.unmarked));
      }

  module _ (R : Room m p x.entries) where
    pub exchange_upholds : {o : Exchanged} → Outcome p m x o → Upholds below m (memory_after o) p (exchanging x) (act_after o)
    exchange_upholds (starts s) = absurd (at-step_as S start s)
    exchange_upholds (tests_done s h) = same_upholds (to x commit) (follows_to x commit) refl (rw s) refl (λ k st. (rw s, st))
    exchange_upholds (tests_on s h) = same_upholds (to x load) (follows_to x load) refl (rw s) refl (λ k st. (rw s, st))
    exchange_upholds (loads s) = same_upholds _ (follows_noted x _ false look ((mine S).at_entry (rw s))) refl (rw s) refl (λ k st. (rw s, st))
    exchange_upholds (looks_own s w) = same_upholds _ (follows_noted x _ false _ ((mine S).at_entry (rw s))) refl (rw s) refl (λ k st. (rw s, st))
    exchange_upholds (looks_other s w) = same_upholds _ (follows_noted x _ true fetch ((mine S).at_entry (rw s))) refl (rw s) refl (λ k st. (rw s, st))
    exchange_upholds (fetches s) = same_upholds (to x (save _)) (follows_to x (save _)) refl (rw s) refl (λ k st. (rw s, st))
    exchange_upholds (saves_differing v s ne) = hopeless_upholds fail (rw s) refl refl
    exchange_upholds (saves-to_mark v s d o c) = same_upholds (to x mark) (follows_to x mark) refl (rw s) refl (λ k st. (rw s, st))
    exchange_upholds (saves v s d u) = same_upholds (to x install) (follows_to x install) refl (rw s) refl (λ k st. (rw s, st))
    exchange_upholds (fails s) =
        same_upholds (to x test) (follows_to x test) refl (rw s) refl
        (λ k st. absurd (omega (arith, rw (replace-same 0 m.status p 1 (rw S.sizes S.task)) at st)))
    exchange_upholds (marks s) =
        let h = at-step_as S mark s in
        let r = replaced_status S h.0.loaded h.1 in
        same_upholds (to x install) (follows_to x install) refl (rw s) refl
        (λ k st. (rw s, kept-zero (mark_keeps m (here x).init.task r.0 r.1 p) st))
    exchange_upholds (installs s h) = install_upholds R s h
    exchange_upholds (misses s h) = miss_upholds s
    exchange_upholds (decides s d ne) = hopeless_upholds (clean 0 _) (rw s) refl (decided_cells S d)
    exchange_upholds (decides_last s d z) =
        record { content = λ c u L h. stays (rw (decided_cells S d) h); cover = λ u L C. absurd (omega (arith, C.high)); own = tt }
    exchange_upholds (cleans j yes? c ne) = cleans_upholds j yes? (returns j yes? R c)
    exchange_upholds (cleans_last j yes? c k) = cleans_last_upholds j (returns j yes? R c) k
    exchange_upholds (cleans_to_mark j yes? s e h o) = hopeless_upholds (clean_mark j yes?) (rw s) refl refl
