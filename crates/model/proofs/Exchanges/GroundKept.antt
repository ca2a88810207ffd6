-- Commit and Clean uphold the grounds, and with that every outcome of an exchange's tick. An exchange that ends with no has its grounds.
use Prim.Native.Nat.{ℕ, suc, ◌<◌, ◌≤◌}
use mathlib.Core.Bool.{Bool, false, true≢false}
use mathlib.Core.Path.{◌≡◌, refl, sym, ◌∙◌, ap}
use mathlib.Core.Logic.{◌≢◌, ◌⊎◌, inl, inr}
use mathlib.Core.List.{List}
use native.Mathlib.Omega.{arith}
use lib.ListN.{length}
use Rattle.model.specs.Word.{Word, Memory, cell_of, status_of, set_cell, fresh_word}
use Rattle.model.specs.Exchange.{Entry, start, load, install, commit, mark, fail, save, clean}
use Rattle.model.specs.Exchange.{clean_mark, Exchange, Exchanged, goes, ends, entry_at, installed, to}
use Rattle.model.proofs.Lists.{replace-same, replace-other, same?}
use Rattle.model.proofs.Fit.Elements.{and_right}
use Rattle.model.proofs.Exchanges.Act.{Act, free, exchanging, act_at, act_after, memory_after, stage, uncleaned}
use Rattle.model.proofs.Exchanges.Invariant.{Situation, Room}
use Rattle.model.proofs.Exchanges.Words.{changes}
use Rattle.model.proofs.Exchanges.Outcome.{Decides, commits, refuses, Cleans, renews, passes, gives_back, leaves, marks-after, Outcome, starts}
use Rattle.model.proofs.Exchanges.Outcome.{tests_done, tests_on, loads, looks_own, looks_other, fetches, saves_differing, saves-to_mark, saves}
use Rattle.model.proofs.Exchanges.Outcome.{fails, marks, installs, misses, decides, decides_last, cleans, cleans_last, cleans_to_mark}
use Rattle.model.proofs.Exchanges.Early.{follows_to, mine, at-step_as}
use Rattle.model.proofs.Exchanges.Clean.{decided_cells, clean-entry}
use Rattle.model.proofs.Exchanges.Ground.{Knowledge, GroundsOf, Replaces, CountsOn, there, was_hit, Past, Busy, Passes, SeesNow}
use Rattle.model.proofs.Exchanges.GroundFrame.{HitBelow, grounds_later}
use Rattle.model.proofs.Exchanges.GroundEarly.{Outcome-past, running, past, past-step_as, gone_hit}
use Rattle.model.proofs.Exchanges.GroundEarly.{still_counts, follow_pairs, replaced_on, same-past, quiet_past}
use Rattle.model.proofs.Exchanges.GroundStatement.{changing_hits, marked_hit, load_past, look-own-past, look-other-past, fetch_past}
use Rattle.model.proofs.Exchanges.GroundStatement.{save-past, differing_grounds, fail_past, mark_past, counts-on, install_past, miss-past}

module _ {below : ℕ → ℕ → Type 0} {m : Memory} {acts : List Act} {p : ℕ} {x : Exchange} (S : Situation below m acts p (exchanging x)) {H H' : Knowledge}
    (T : Passes below acts p H H') (P : Past below H m acts) where
  -- COMMIT
  decided_grounds : {n : Memory} {yes? : Bool} → x.step ≡ commit → Decides p m n yes? → yes? ≡ false → GroundsOf H' p
  decided_grounds s (commits e) k = absurd (true≢false k)
  decided_grounds s (refuses ne) k = grounds_later T (running S T P) ((past S T P).grounds (rw s) ne)

  decided_marked : {n : Memory} {yes? : Bool} → Decides p m n yes? → (r : ℕ) → r ≢ p
      → (status_of n r ≡ status_of m r) ⊎ ((z : Exchange) → act_at acts r ≡ exchanging z → below r p → HitBelow (H'.hit r) z)
  decided_marked (commits e) r ne = inl (replace-other 0 m.status p r 2 ne)
  decided_marked (refuses e) r ne = inl refl

  decides_past : {n : Memory} {yes? : Bool} → x.step ≡ commit → Decides p m n yes? → Outcome-past S T P n (exchanging (to x (clean 0 yes?)))
  decides_past s d =
      same-past S T P (to x (clean 0 _)) (follows_to x (clean 0 _)) refl (rw s) (decided_cells S d) (decided_marked d)
      (λ k. absurd (true≢false (sym k))) (decided_grounds s d)

  decides_last-past : {n : Memory} {yes? : Bool} → Decides p m n yes? → x.i ≡ 0 → Outcome-past S T P n free
  decides_last-past d z = record {
    content = λ r c w B b o h. there (rw (decided_cells S d) h);
    cover = λ r c w B b C. absurd (omega (arith, C.high));
    marked = decided_marked d;
    own = tt;
  }

  -- CLEAN of entry j: what j replaced is back in its cell, or its cell was hit
  record Cleared (j : ℕ) (yes? : Bool) (n : Memory) : Type 0 where
    low : j ≤ uncleaned (stage x)
    high : uncleaned (stage x) ≤ suc j
    content : (c : ℕ) (w : Word) → ((e : Entry) (i : ℕ) → w ≢ installed p e i) → cell_of m c ≡ w → cell_of n c ≡ w
    entry : (r : ℕ) → Busy acts r → below r p → uncleaned (stage x) ≤ j
        → (cell_of n (entry_at x j).cell ≡ (entry_at x j).init) ⊎ H'.hit r (entry_at x j).cell
    others : (e : ℕ) → suc j ≤ e → e < x.i → cell_of m (entry_at x e).cell ≡ installed p (entry_at x e) e
        → cell_of n (entry_at x e).cell ≡ installed p (entry_at x e) e
    marked : (r : ℕ) → r ≢ p → (status_of n r ≡ status_of m r) ⊎ ((z : Exchange) → act_at acts r ≡ exchanging z → below r p → HitBelow (H'.hit r) z)
    grounds : yes? ≡ false → GroundsOf H' p

  -- p leaves entry j behind
  entry-behind : {n : Memory} {yes? : Bool} {r c : ℕ} {w : Word} {after : List Act} (j : ℕ) → Cleared j yes? n → Busy acts r → below r p
      → (C : Replaces x c w) → C.number ≡ j → CountsOn below (H'.hit r) n.cells after r c w
  entry-behind {n} {yes?} {r} {c} {w} {after} j K B b C k = go (K.entry r B b (rw k at C.low))
    where
      go : (cell_of n (entry_at x j).cell ≡ (entry_at x j).init) ⊎ H'.hit r (entry_at x j).cell → CountsOn below (H'.hit r) n.cells after r c w
      go (inl h) = there (rw (rw k at C.cell, rw k at C.init) at h)
      go (inr h) = was_hit (rw (rw k at C.cell) at h)

  cleans_past : {n : Memory} (j : ℕ) (yes? : Bool) → Cleared j yes? n → Outcome-past S T P n (exchanging (to x (clean (suc j) yes?)))
  cleans_past {n} j yes? K =
      let x' = to x (clean (suc j) yes?) in
      record {
        content = λ r c w B b o h. there (K.content c w o h);
        cover = λ r c w B b C. same? C.number j
            (λ k. entry-behind j K B b C k)
            (λ ne. replaced_on S T P x' n.cells (follows_to x (clean (suc j) yes?)) b C (omega (arith, C.low, K.low)) C.high);
        marked = K.marked;
        own = record {
          pairs = follow_pairs S T P (follows_to x (clean (suc j) yes?));
          counts = λ e l h. still_counts S T P n.cells (exchanging x') (K.others e l h) ((past S T P).counts e (omega (arith, K.high)) h);
          grounds = λ k. absurd (true≢false (sym k));
          at-step = K.grounds;
        };
      }

  cleans_last-past : {n : Memory} (j : ℕ) (yes? : Bool) → Cleared j yes? n → suc j ≡ x.i → Outcome-past S T P n free
  cleans_last-past j yes? K last =
      record {
        content = λ r c w B b o h. there (K.content c w o h);
        cover = λ r c w B b C. entry-behind j K B b C (omega (arith, C.low, C.high, K.low));
        marked = K.marked;
        own = tt;
      }

  module _ (j : ℕ) (yes? : Bool) (s : x.step ≡ clean j yes?) where
    j_low : j ≤ uncleaned (stage x)
    j_low = rw s (omega arith)

    j_high : uncleaned (stage x) ≤ suc j
    j_high = rw s (omega arith)

    j_inside : j < length x.entries
    j_inside = omega (arith, (mine S).within, clean-entry S j yes? s)

    clean_grounds : yes? ≡ false → GroundsOf H' p
    clean_grounds k = grounds_later T (running S T P) (past-step_as S T P (clean j yes?) s k)

    lost : cell_of m (entry_at x j).cell ≢ installed p (entry_at x j) j → H.hit p (entry_at x j).cell
    lost ne = gone_hit S T P ne ((past S T P).counts j (rw s (omega arith)) (clean-entry S j yes? s))

    -- p's word no longer stands: its cell was hit, and with p all tasks below it
    cleared_lost : cell_of m (entry_at x j).cell ≢ installed p (entry_at x j) j → Cleared j yes? m
    cleared_lost ne =
        record {
          low = j_low;
          high = j_high;
          content = λ c w o h. h;
          entry = λ r B b l. inr (T.down r _ B (running S T P) b (lost ne));
          others = λ e l h k. k;
          marked = λ r d. inl refl;
          grounds = clean_grounds;
        }

    -- p's word stands, and is replaced by v
    cleared_cell : (v : Word) → cell_of m (entry_at x j).cell ≡ installed p (entry_at x j) j
        → ((r : ℕ) → Busy acts r → below r p
        → (cell_of (set_cell m (entry_at x j).cell v) (entry_at x j).cell ≡ (entry_at x j).init) ⊎ H'.hit r (entry_at x j).cell)
        → Cleared j yes? (set_cell m (entry_at x j).cell v)
    cleared_cell v h back =
        let c₀ = (entry_at x j).cell in
        record {
          low = j_low;
          high = j_high;
          content = λ c w o k. same? c c₀
              (λ d. absurd (o (entry_at x j) j (sym k ∙ ap (λ (z : ℕ). cell_of m z) d ∙ h)))
              (λ ne. rw (replace-other (fresh_word 0) m.cells c₀ c v ne) k);
          entry = λ r B b l. back r B b;
          others = λ e l g k.
              rw
              (replace-other (fresh_word 0) m.cells c₀ (entry_at x e).cell v
              (λ d. let z = (mine S).distinct e j (omega (arith, (mine S).within)) j_inside d in omega arith))
              k;
          marked = λ r ne. inl refl;
          grounds = clean_grounds;
        }

    cleans_to_mark_past : cell_of m (entry_at x j).cell ≢ installed p (entry_at x j) j → Outcome-past S T P m (exchanging (to x (clean_mark j yes?)))
    cleans_to_mark_past ne =
        let x' = to x (clean_mark j yes?) in
        let K = cleared_lost ne in
        record {
          content = λ r c w B b o h. there h;
          cover = λ r c w B b C. same? C.number j
              (λ k. entry-behind j K B b C k)
              (λ d. replaced_on S T P x' m.cells (follows_to x (clean_mark j yes?)) b C (omega (arith, C.low, K.low)) C.high);
          marked = K.marked;
          own = record {
            pairs = follow_pairs S T P (follows_to x (clean_mark j yes?));
            counts = λ e l h. still_counts S T P m.cells (exchanging x') (λ k. k) ((past S T P).counts e (omega (arith, K.high)) h);
            grounds = λ k. absurd (true≢false (sym k));
            at-step = (clean_grounds, T.hit p _ (running S T P) (lost ne));
          };
        }

  cleared : (j : ℕ) {n : Memory} (yes? : Bool) → Room m p x.entries → Cleans p m x j yes? n → Cleared j yes? n
  cleared j yes? R (renews s e h) =
      cleared_cell j yes? s _ h (λ r B b. inr (changing_hits S T P r j B b (j_inside j yes? s) (changes (entry_at x j) (and_right yes? _ e))))
  cleared j yes? R (passes s e h) = cleared_lost j yes? s h
  cleared j yes? R (gives_back s e h) =
      cleared_cell j yes? s _ h
      (λ r B b. inl (replace-same (fresh_word 0) m.cells (entry_at x j).cell (entry_at x j).init (R.cells j (j_inside j yes? s))))
  cleared j yes? R (leaves s e h o) = cleared_lost j yes? s h
  cleared j yes? R (marks-after s) =
      let k = at-step_as S (clean_mark j yes?) s in
      let g = past-step_as S T P (clean_mark j yes?) s in
      record {
        low = rw s (omega arith);
        high = rw s (omega arith);
        content = λ c w o h. h;
        entry = λ r B b l. absurd (omega (arith, rw s at l));
        others = λ e l h i. i;
        marked =
            marked_hit S T P (entry_at x j) ((mine S).settled j (rw s (omega arith)) k.0).found.loaded k.2
            (λ r B b. T.down r _ B (running S T P) b g.1);
        grounds = λ e. grounds_later T (running S T P) (g.0 e);
      }

  pub exchange_upholds_past : {o : Exchanged} → SeesNow m p H' → Room m p x.entries → Outcome p m x o
      → Outcome-past S T P (memory_after o) (act_after o)
  exchange_upholds_past now R (starts s) = absurd (at-step_as S start s)
  exchange_upholds_past now R (tests_done s h) = quiet_past S T P (to x commit) (follows_to x commit) refl (rw s) (rw s) tt
  exchange_upholds_past now R (tests_on s h) = quiet_past S T P (to x load) (follows_to x load) refl (rw s) (rw s) tt
  exchange_upholds_past now R (loads s) = load_past S T P now s
  exchange_upholds_past now R (looks_own s w) = look-own-past S T P s w
  exchange_upholds_past now R (looks_other s w) = look-other-past S T P s w
  exchange_upholds_past now R (fetches s) = fetch_past S T P s
  exchange_upholds_past now R (saves_differing v s ne) = save-past S T P v fail s refl (differing_grounds S T P v s ne)
  exchange_upholds_past now R (saves-to_mark v s d o c) =
      save-past S T P v mark s refl (counts-on S T P m.cells _ refl (past-step_as S T P (save v) s).0)
  exchange_upholds_past now R (saves v s d u) =
      save-past S T P v install s refl (counts-on S T P m.cells _ refl (past-step_as S T P (save v) s).0)
  exchange_upholds_past now R (fails s) = fail_past S T P s
  exchange_upholds_past now R (marks s) = mark_past S T P s
  exchange_upholds_past now R (installs s h) = install_past S T P R s h
  exchange_upholds_past now R (misses s h) = miss-past S T P s h
  exchange_upholds_past now R (decides s d ne) = decides_past s d
  exchange_upholds_past now R (decides_last s d z) = decides_last-past d z
  exchange_upholds_past now R (cleans j yes? c ne) = cleans_past j yes? (cleared j yes? R c)
  exchange_upholds_past now R (cleans_last j yes? c k) = cleans_last-past j yes? (cleared j yes? R c) k
  exchange_upholds_past now R (cleans_to_mark j yes? s e h o) = cleans_to_mark_past j yes? s h

  abbrev pub NoGrounds : Exchanged → Type 0
  NoGrounds (goes n y) = Unit {0}
  NoGrounds (ends n yes?) = yes? ≡ false → GroundsOf H' p

  pub no_grounds : {o : Exchanged} → Room m p x.entries → Outcome p m x o → NoGrounds o
  no_grounds R (starts s) = tt
  no_grounds R (tests_done s h) = tt
  no_grounds R (tests_on s h) = tt
  no_grounds R (loads s) = tt
  no_grounds R (looks_own s w) = tt
  no_grounds R (looks_other s w) = tt
  no_grounds R (fetches s) = tt
  no_grounds R (saves_differing v s ne) = tt
  no_grounds R (saves-to_mark v s d o c) = tt
  no_grounds R (saves v s d u) = tt
  no_grounds R (fails s) = tt
  no_grounds R (marks s) = tt
  no_grounds R (installs s h) = tt
  no_grounds R (misses s h) = tt
  no_grounds R (decides s d ne) = tt
  no_grounds R (decides_last s d z) = decided_grounds s d
  no_grounds R (cleans j yes? c ne) = tt
  no_grounds R (cleans_last j yes? c k) = (cleared j yes? R c).grounds
  no_grounds R (cleans_to_mark j yes? s e h o) = tt
