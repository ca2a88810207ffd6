-- A tick of an exchange as a relation: one constructor for each outcome, with what its tests said. Proved of `exchangeTick` once.
use Prim.Native.Nat.{ℕ, suc}
use mathlib.Core.Bool.{Bool, true, false, ◌&&◌, ◌||◌}
use mathlib.Core.Path.{◌≡◌, refl}
use mathlib.Core.Logic.{◌≢◌, ◌⊎◌, inl, inr}
use lib.Dec.{eqb}
use lib.ListN.{length}
use borrow.Author.Tests.{eqb-true, eqb-false}
use Rattle.model.specs.Word.{same_word, Memory, cell_of, status_of, saved, set_cell, set_status, set_save, own}
use Rattle.model.specs.Exchange.{Step, start, test, load, look, fetch, fail, mark, install, commit, save, clean, clean_mark}
use Rattle.model.specs.Exchange.{Exchange, Exchanged, goes, ends, entry_at, changing, installed, cleaned, to, onward, test_by, look_by}
use Rattle.model.specs.Exchange.{after_save, install_by, clean_by, commit_by, next_by, next, clean_word_by, exchange_tick, init_loaded}
use Rattle.model.proofs.Exchanges.Act.{here}
use Rattle.model.proofs.Fit.Elements.{and_left, and_right, or_cases, or_none, or_none_right}
use Rattle.model.proofs.Exchanges.Words.{same_word_lem, other_word}

-- Commit's decision: the memory it leaves, and its answer
pub data Decides (p : ℕ) (m : Memory) : Memory → Bool → Type 0 where
  commits : status_of m p ≡ 0 → Decides p m (set_status m p 2) true
  refuses : status_of m p ≢ 0 → Decides p m m false

-- What Clean, or its Mark, does at entry j before it goes on: makes the word new, finds that it no longer stands, gives the word back,
-- finds that it no longer stands and replaced nobody's, or marks the task of the word that it replaced.
pub data Cleans (p : ℕ) (m : Memory) (x : Exchange) (j : ℕ) (yes? : Bool) : Memory → Type 0 where
  renews : x.step ≡ clean j yes? → (yes? && changing (entry_at x j)) ≡ true → cell_of m (entry_at x j).cell ≡ installed p (entry_at x j) j
      → Cleans p m x j yes? (set_cell m (entry_at x j).cell (cleaned p (entry_at x j)))
  passes : x.step ≡ clean j yes? → (yes? && changing (entry_at x j)) ≡ true → cell_of m (entry_at x j).cell ≢ installed p (entry_at x j) j
      → Cleans p m x j yes? m
  gives_back : x.step ≡ clean j yes? → (yes? && changing (entry_at x j)) ≡ false → cell_of m (entry_at x j).cell ≡ installed p (entry_at x j) j
      → Cleans p m x j yes? (set_cell m (entry_at x j).cell (entry_at x j).init)
  leaves : x.step ≡ clean j yes? → (yes? && changing (entry_at x j)) ≡ false → cell_of m (entry_at x j).cell ≢ installed p (entry_at x j) j
      → (entry_at x j).overlapped ≡ false
      → Cleans p m x j yes? m
  marks-after : x.step ≡ clean_mark j yes? → Cleans p m x j yes? (set_status m (entry_at x j).init.task 1)

pub data Outcome (p : ℕ) (m : Memory) (x : Exchange) : Exchanged → Type 0 where
  starts : x.step ≡ start → Outcome p m x (goes (set_status m p 0) (record { entries = x.entries; i = 0; step = test }))
  tests_done : x.step ≡ test → (x.i ≡ length x.entries) ⊎ (status_of m p ≡ 1) → Outcome p m x (goes m (to x commit))
  tests_on : x.step ≡ test → (x.i ≢ length x.entries) × (status_of m p ≢ 1) → Outcome p m x (goes m (to x load))
  loads : x.step ≡ load → Outcome p m x (goes m (init_loaded x (cell_of m (here x).cell) false look))
  looks_own : x.step ≡ look → own m.status (here x).init ≡ true
      → Outcome p m x (goes m (init_loaded x (here x).init false (save (here x).init.value)))
  looks_other : x.step ≡ look → own m.status (here x).init ≡ false → Outcome p m x (goes m (init_loaded x (here x).init true fetch))
  fetches : x.step ≡ fetch → Outcome p m x (goes m (to x (save (saved m.saves (here x).init.task (here x).init.count))))
  saves_differing : (v : ℕ) → x.step ≡ save v → v ≢ (here x).old → Outcome p m x (goes (set_save m p x.i v) (to x fail))
  saves-to_mark : (v : ℕ) → x.step ≡ save v → v ≡ (here x).old → (here x).overlapped ≡ true → changing (here x) ≡ true
      → Outcome p m x (goes (set_save m p x.i v) (to x mark))
  saves : (v : ℕ) → x.step ≡ save v → v ≡ (here x).old → ((here x).overlapped && changing (here x)) ≡ false
      → Outcome p m x (goes (set_save m p x.i v) (to x install))
  fails : x.step ≡ fail → Outcome p m x (goes (set_status m p 1) (to x test))
  marks : x.step ≡ mark → Outcome p m x (goes (set_status m (here x).init.task 1) (to x install))
  installs : x.step ≡ install → cell_of m (here x).cell ≡ (here x).init
      → Outcome p m x (goes (set_cell m (here x).cell (installed p (here x) x.i)) (onward x test))
  misses : x.step ≡ install → cell_of m (here x).cell ≢ (here x).init → Outcome p m x (goes m (onward x fail))
  decides : {n : Memory} {yes? : Bool} → x.step ≡ commit → Decides p m n yes? → x.i ≢ 0 → Outcome p m x (goes n (to x (clean 0 yes?)))
  decides_last : {n : Memory} {yes? : Bool} → x.step ≡ commit → Decides p m n yes? → x.i ≡ 0 → Outcome p m x (ends n yes?)
  cleans : {n : Memory} (j : ℕ) (yes? : Bool) → Cleans p m x j yes? n → suc j ≢ x.i → Outcome p m x (goes n (to x (clean (suc j) yes?)))
  cleans_last : {n : Memory} (j : ℕ) (yes? : Bool) → Cleans p m x j yes? n → suc j ≡ x.i → Outcome p m x (ends n yes?)
  cleans_to_mark : (j : ℕ) (yes? : Bool) → x.step ≡ clean j yes? → (yes? && changing (entry_at x j)) ≡ false
      → cell_of m (entry_at x j).cell ≢ installed p (entry_at x j) j → (entry_at x j).overlapped ≡ true
      → Outcome p m x (goes m (to x (clean_mark j yes?)))

module _ (p : ℕ) (m : Memory) (x : Exchange) where
  tested : x.step ≡ test → (b : Bool) → (eqb x.i (length x.entries) || eqb (status_of m p) 1) ≡ b → Outcome p m x (test_by b m x)
  unfolding test_by
  tested s true e =
      tests_done s (or_cases (eqb x.i (length x.entries)) (eqb (status_of m p) 1) e (λ f. inl (eqb-true _ _ f)) (λ f. inr (eqb-true _ _ f)))
  tested s false e =
      tests_on s
      (eqb-false _ _ (or_none (eqb x.i (length x.entries)) _ e), eqb-false _ _ (or_none_right (eqb x.i (length x.entries)) _ e))

  looked : x.step ≡ look → (b : Bool) → own m.status (here x).init ≡ b → Outcome p m x (look_by b m x (here x))
  unfolding look_by
  looked s true e = looks_own s e
  looked s false e = looks_other s e

  saved_so : (v : ℕ) → x.step ≡ save v → (b c : Bool) → eqb v (here x).old ≡ b → ((here x).overlapped && changing (here x)) ≡ c
      → Outcome p m x (goes (set_save m p x.i v) (to x (after_save b c)))
  saved_so v s false c e f = saves_differing v s (eqb-false _ _ e)
  saved_so v s true true e f = saves-to_mark v s (eqb-true _ _ e) (and_left _ (changing (here x)) f) (and_right (here x).overlapped _ f)
  saved_so v s true false e f = saves v s (eqb-true _ _ e) f

  installed_so : x.step ≡ install → (b : Bool) → same_word (cell_of m (here x).cell) (here x).init ≡ b → Outcome p m x (install_by b p m x (here x))
  unfolding install_by
  installed_so s true e = installs s (same_word_lem _ _ e)
  installed_so s false e = misses s (other_word _ _ e)

  begun : {n : Memory} {yes? : Bool} → x.step ≡ commit → Decides p m n yes? → (b : Bool) → eqb x.i 0 ≡ b → Outcome p m x (clean_by b n x yes?)
  unfolding clean_by
  begun s d true e = decides_last s d (eqb-true _ _ e)
  begun s d false e = decides s d (eqb-false _ _ e)

  committed : x.step ≡ commit → (b : Bool) → eqb (status_of m p) 0 ≡ b → Outcome p m x (commit_by b p m x)
  unfolding commit_by
  committed s true e = begun s (commits (eqb-true _ _ e)) _ refl
  committed s false e = begun s (refuses (eqb-false _ _ e)) _ refl

  gone_on : {n : Memory} (j : ℕ) (yes? : Bool) → Cleans p m x j yes? n → (b : Bool) → eqb (suc j) x.i ≡ b → Outcome p m x (next_by b n x j yes?)
  unfolding next_by
  gone_on j yes? c true e = cleans_last j yes? c (eqb-true _ _ e)
  gone_on j yes? c false e = cleans j yes? c (eqb-false _ _ e)

  cleaned_so : (j : ℕ) (yes? : Bool) → x.step ≡ clean j yes? → (b c o : Bool)
      → (yes? && changing (entry_at x j)) ≡ b → same_word (cell_of m (entry_at x j).cell) (installed p (entry_at x j) j) ≡ c → (entry_at x j).overlapped ≡ o
      → Outcome p m x (clean_word_by b c o p m x (entry_at x j) j yes?)
  unfolding clean_word_by next
  cleaned_so j yes? s true true o e f g = gone_on j yes? (renews s e (same_word_lem _ _ f)) _ refl
  cleaned_so j yes? s true false o e f g = gone_on j yes? (passes s e (other_word _ _ f)) _ refl
  cleaned_so j yes? s false true o e f g = gone_on j yes? (gives_back s e (same_word_lem _ _ f)) _ refl
  cleaned_so j yes? s false false true e f g = cleans_to_mark j yes? s e (other_word _ _ f) g
  cleaned_so j yes? s false false false e f g = gone_on j yes? (leaves s e (other_word _ _ f) g) _ refl

  outcome_at : (s : Step) → x.step ≡ s → Outcome p m x (exchange_tick p m x s)
  unfolding exchange_tick next
  outcome_at start s = starts s
  outcome_at test s = tested s _ refl
  outcome_at load s = loads s
  outcome_at look s = looked s _ refl
  outcome_at fetch s = fetches s
  outcome_at (save v) s = saved_so v s _ _ refl refl
  outcome_at fail s = fails s
  outcome_at mark s = marks s
  outcome_at install s = installed_so s _ refl
  outcome_at commit s = committed s _ refl
  outcome_at (clean j yes?) s = cleaned_so j yes? s _ _ _ refl refl refl
  outcome_at (clean_mark j yes?) s = gone_on j yes? (marks-after s) _ refl

  pub outcome : Outcome p m x (exchange_tick p m x x.step)
  outcome = outcome_at x.step refl
