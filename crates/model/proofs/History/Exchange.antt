-- What a tick of an exchange means for its operation: the pairs stay, and it has said yes from the Commit on that turned status 0 into 2.
use Prim.Native.Nat.{ℕ, suc}
use mathlib.Core.Bool.{Bool, true, false, not, ◌&&◌, ◌||◌, true≢false}
use mathlib.Core.Path.{◌≡◌, refl, sym, subst}
use mathlib.Core.Logic.{◌≢◌}
use mathlib.Core.List.{List, map}
use lib.Dec.{eqb}
use lib.ListN.{length}
use lib.Seq.{map-set_same}
use borrow.Author.Tests.{eqb-true, eqb-false}
use Rattle.model.specs.Lists.{at, replace}
use Rattle.model.specs.Word.{Word, same_word, Memory, cell_of, status_of, set_cell, set_status, own}
use Rattle.model.specs.Exchange.{Entry, entry, Step, start, test, load, look, fetch, save, fail, mark, install, commit, clean, clean_mark}
use Rattle.model.specs.Exchange.{Exchange, Exchanged, goes, ends, said_yes, commit_said_yes, entry_at, changing, installed, cleaned, test_by}
use Rattle.model.specs.Exchange.{look_by, after_save, install_by, clean_by, commit_by, next_by, next, clean_word_by, exchange_tick, with_init}
use Rattle.model.specs.Arguments.{Pair}
use Rattle.model.specs.Machine.{pair_of}

-- this step is the Commit that says yes
abbrev pub says_yes : ℕ → Memory → Step → Bool
says_yes p m commit = eqb (status_of m p) 0
says_yes p m start = false
says_yes p m test = false
says_yes p m load = false
says_yes p m look = false
says_yes p m fetch = false
says_yes p m fail = false
says_yes p m mark = false
says_yes p m install = false
says_yes p m (save v) = false
says_yes p m (clean j yes?) = false
says_yes p m (clean_mark j yes?) = false

pub says-commit : (p : ℕ) (m : Memory) (s : Step) → says_yes p m s ≡ true → (s ≡ commit) × (status_of m p ≡ 0)
says-commit p m commit e = (refl, eqb-true _ _ e)
says-commit p m start e = absurd (true≢false (sym e))
says-commit p m test e = absurd (true≢false (sym e))
says-commit p m load e = absurd (true≢false (sym e))
says-commit p m look e = absurd (true≢false (sym e))
says-commit p m fetch e = absurd (true≢false (sym e))
says-commit p m fail e = absurd (true≢false (sym e))
says-commit p m mark e = absurd (true≢false (sym e))
says-commit p m install e = absurd (true≢false (sym e))
says-commit p m (save v) e = absurd (true≢false (sym e))
says-commit p m (clean j yes?) e = absurd (true≢false (sym e))
says-commit p m (clean_mark j yes?) e = absurd (true≢false (sym e))

pub says-not : (p : ℕ) (m : Memory) (s : Step) → says_yes p m s ≡ false → s ≡ commit → status_of m p ≢ 0
says-not p m s e c = eqb-false _ _ (subst (λ (z : Step). says_yes p m z ≡ false) c e)

-- it says yes but once
pub yes-once : (p : ℕ) (m : Memory) (s : Step) → says_yes p m s ≡ true → said_yes s ≡ false
yes-once p m commit e = refl
yes-once p m start e = refl
yes-once p m test e = refl
yes-once p m load e = refl
yes-once p m look e = refl
yes-once p m fetch e = refl
yes-once p m fail e = refl
yes-once p m mark e = refl
yes-once p m install e = refl
yes-once p m (save v) e = refl
yes-once p m (clean j yes?) e = absurd (true≢false (sym e))
yes-once p m (clean_mark j yes?) e = absurd (true≢false (sym e))

abbrev pub pairs_of : Exchange → List Pair
pairs_of x = map pair_of x.entries

pub record Goes (p : ℕ) (m : Memory) (x : Exchange) (s : Step) (x' : Exchange) : Type 0 where
  pub pairs : pairs_of x' ≡ pairs_of x
  pub yes : said_yes x'.step ≡ (said_yes s || says_yes p m s)

-- a yes is said in this tick: seen from the test of Commit, and from before and after
says-now : (said says after : Bool) → after ≡ (said || says) → (says ≡ true → said ≡ false) → (not said && after) ≡ says
says-now false false after e n = rw e refl
says-now false true after e n = rw e refl
says-now true false after e n = refl
says-now true true after e n = absurd (true≢false (n refl))

pub said_now : (p : ℕ) (m : Memory) (x x' : Exchange) → Goes p m x x.step x' → commit_said_yes x x' ≡ says_yes p m x.step
said_now p m x x' g = says-now (said_yes x.step) (says_yes p m x.step) (said_yes x'.step) g.yes (yes-once p m x.step)

abbrev pub Follows : ℕ → Memory → Exchange → Step → Exchanged → Type 0
Follows p m x s (goes m' x') = Goes p m x s x'
Follows p m x s (ends m' yes?) = yes? ≡ (said_yes s || says_yes p m s)

pairs-noted : (x : Exchange) (w : Word) (o : Bool) → map pair_of (replace x.entries x.i (with_init (entry_at x x.i) w o)) ≡ pairs_of x
unfolding at replace
pairs-noted x w o = map-set_same pair_of x.entries x.i (with_init (entry_at x x.i) w o) (entry 0 0 0) refl

module _ (p : ℕ) (m : Memory) (x : Exchange) where
  test_follows : (b : Bool) → Follows p m x test (test_by b m x)
  unfolding test_by
  test_follows true = record { pairs = refl; yes = refl }
  test_follows false = record { pairs = refl; yes = refl }

  look_follows : (b : Bool) → Follows p m x look (look_by b m x (entry_at x x.i))
  unfolding look_by
  look_follows true = record { pairs = pairs-noted x (entry_at x x.i).init false; yes = refl }
  look_follows false = record { pairs = pairs-noted x (entry_at x x.i).init true; yes = refl }

  after-save : (a b : Bool) → said_yes (after_save a b) ≡ false
  after-save false b = refl
  after-save true true = refl
  after-save true false = refl

  install_follows : (b : Bool) (e : Entry) → Follows p m x install (install_by b p m x e)
  unfolding install_by
  install_follows true e = record { pairs = refl; yes = refl }
  install_follows false e = record { pairs = refl; yes = refl }

  clean-begins : (b yes? : Bool) (n : Memory) → says_yes p m commit ≡ yes? → Follows p m x commit (clean_by b n x yes?)
  unfolding clean_by
  clean-begins true yes? n e = sym e
  clean-begins false yes? n e = record { pairs = refl; yes = sym e }

  commit_follows : (b : Bool) → says_yes p m commit ≡ b → Follows p m x commit (commit_by b p m x)
  unfolding commit_by
  commit_follows true e = clean-begins (eqb x.i 0) true (set_status m p 2) e
  commit_follows false e = clean-begins (eqb x.i 0) false m e

  or_same : (b : Bool) → b ≡ (b || false)
  or_same true = refl
  or_same false = refl

  next-by : (b : Bool) (n : Memory) (j : ℕ) (yes? : Bool) (s : Step) → (said_yes s || says_yes p m s) ≡ yes? → Follows p m x s (next_by b n x j yes?)
  unfolding next_by
  next-by true n j yes? s e = sym e
  next-by false n j yes? s e = record { pairs = refl; yes = sym e }

  next_follows : (n : Memory) (j : ℕ) (yes? : Bool) (s : Step) → (said_yes s || says_yes p m s) ≡ yes? → Follows p m x s (next n x j yes?)
  unfolding next
  next_follows n j yes? s e = next-by (eqb (suc j) x.i) n j yes? s e

  clean_follows : (a b c : Bool) (e : Entry) (j : ℕ) (yes? : Bool) → Follows p m x (clean j yes?) (clean_word_by a b c p m x e j yes?)
  unfolding clean_word_by
  clean_follows true true c e j yes? = next_follows (set_cell m e.cell (cleaned p e)) j yes? (clean j yes?) (sym (or_same yes?))
  clean_follows true false c e j yes? = next_follows m j yes? (clean j yes?) (sym (or_same yes?))
  clean_follows false true c e j yes? = next_follows (set_cell m e.cell e.init) j yes? (clean j yes?) (sym (or_same yes?))
  clean_follows false false true e j yes? = record { pairs = refl; yes = or_same yes? }
  clean_follows false false false e j yes? = next_follows m j yes? (clean j yes?) (sym (or_same yes?))

  pub follows : (s : Step) → Follows p m x s (exchange_tick p m x s)
  unfolding exchange_tick
  follows start = record { pairs = refl; yes = refl }
  follows test = test_follows (eqb x.i (length x.entries) || eqb (status_of m p) 1)
  follows load = record { pairs = pairs-noted x (cell_of m (entry_at x x.i).cell) false; yes = refl }
  follows look = look_follows (own m.status (entry_at x x.i).init)
  follows fetch = record { pairs = refl; yes = refl }
  follows (save v) =
      record { pairs = refl; yes = after-save (eqb v (entry_at x x.i).old) ((entry_at x x.i).overlapped && changing (entry_at x x.i)) }
  follows fail = record { pairs = refl; yes = refl }
  follows mark = record { pairs = refl; yes = refl }
  follows install = install_follows (same_word (cell_of m (entry_at x x.i).cell) (entry_at x x.i).init) (entry_at x x.i)
  follows commit = commit_follows (eqb (status_of m p) 0) refl
  follows (clean j yes?) =
      clean_follows (yes? && changing (entry_at x j)) (same_word (cell_of m (entry_at x j).cell) (installed p (entry_at x j) j)) (entry_at x j).overlapped
      (entry_at x j) j yes?
  follows (clean_mark j yes?) = next_follows (set_status m (entry_at x j).init.task 1) j yes? (clean_mark j yes?) (sym (or_same yes?))
