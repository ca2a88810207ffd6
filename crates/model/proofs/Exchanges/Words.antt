-- Words that are the same, and values that count.
use Prim.Native.Nat.{ℕ}
use mathlib.Core.Bool.{Bool, true, false, ◌&&◌, true≢false}
use mathlib.Core.Path.{◌≡◌, refl, sym, ◌∙◌}
use mathlib.Core.Logic.{◌≢◌}
use mathlib.Core.List.{List}
use lib.Dec.{eqb}
use borrow.Author.Tests.{eqb-true, eqb-false, eq-eqb, ne_eqb, not-true, not-false}
use Rattle.model.specs.Lists.{at}
use Rattle.model.specs.Word.{Word, same_mark, same_word, saved, own, current, current_by}
use Rattle.model.specs.Exchange.{Entry, changing, installed, cleaned}
use Rattle.model.proofs.Fit.Elements.{or_none, or_none_right}

-- a changing pair is one whose old is not its new
pub changes : (n : Entry) → changing n ≡ true → n.old ≢ n.new
changes n e = eqb-false _ _ (not-true _ e)

pub unchanging : (n : Entry) → changing n ≡ false → n.old ≡ n.new
unchanging n e = eqb-true _ _ (not-false _ e)

-- THE SAME WORD
mark_same : (a b : Bool) → same_mark a b ≡ true → a ≡ b
mark_same true b e = sym e
mark_same false true e = e
mark_same false false e = refl

mark_refl : (b : Bool) → same_mark b b ≡ true
mark_refl true = refl
mark_refl false = refl

pub same_word_lem : (v w : Word) → same_word v w ≡ true → v ≡ w
unfolding same_word
same_word_lem v w e =
    go _ _ _ _ (eqb-true v.value w.value) (eqb-true v.count w.count) (mark_same v.valid w.valid) (eqb-true v.task w.task) e
  where
    go : (a b c d : Bool) → (a ≡ true → v.value ≡ w.value) → (b ≡ true → v.count ≡ w.count) → (c ≡ true → v.valid ≡ w.valid)
        → (d ≡ true → v.task ≡ w.task) → (a && b && c && d) ≡ true → v ≡ w
    go false b c d value count valid task q = cc
    go true false c d value count valid task q = cc
    go true true false d value count valid task q = cc
    go true true true d value count valid task q = λ i. record { value = value refl i; count = count refl i; valid = valid refl i; task = task q i }

word-refl : (w : Word) → same_word w w ≡ true
unfolding same_word
word-refl w = rw (eq-eqb w.value w.value refl, eq-eqb w.count w.count refl, mark_refl w.valid, eq-eqb w.task w.task refl)

pub other_word : (v w : Word) → same_word v w ≡ false → v ≢ w
other_word v w e q = true≢false (sym (rw q (word-refl w)) ∙ e)

-- WHOSE VALUE COUNTS
pub own-valid : (status : List ℕ) (w : Word) → w.valid ≡ true → own status w ≡ true
unfolding own
own-valid status w e = rw e

-- a word whose own value does not count is not valid, and its task's status is not 2
pub not_own : (status : List ℕ) (w : Word) → own status w ≡ false → (w.valid ≡ false) × (at 0 status w.task ≢ 2)
unfolding own
not_own status w e = (or_none w.valid _ e, eqb-false _ _ (or_none_right w.valid _ e))

pub not-counting : (status : List ℕ) (w : Word) → w.valid ≡ false → at 0 status w.task ≢ 2 → own status w ≡ false
unfolding own
not-counting status w e ne = rw (e, ne_eqb (at 0 status w.task) 2 ne)

pub current-own : (status : List ℕ) (saves : List (List ℕ)) (w : Word) → own status w ≡ true → current status saves w ≡ w.value
unfolding current current_by
current-own status saves w e = rw e

pub current-other : (status : List ℕ) (saves : List (List ℕ)) (w : Word) → own status w ≡ false
    → current status saves w ≡ saved saves w.task w.count
unfolding current current_by
current-other status saves w e = rw e

-- what a task has installed counts as new once its status is 2, and before as what it saved
module _ (status : List ℕ) (saves : List (List ℕ)) (p : ℕ) (n : Entry) (e : ℕ) where
  pub installed-new : at 0 status p ≡ 2 → current status saves (installed p n e) ≡ n.new
  unfolding own
  installed-new s = current-own status saves (installed p n e) (rw s)

  pub installed-old : at 0 status p ≢ 2 → current status saves (installed p n e) ≡ saved saves p e
  unfolding own
  installed-old s = current-other status saves (installed p n e) (rw (ne_eqb (at 0 status p) 2 s))

pub cleaned-new : (status : List ℕ) (saves : List (List ℕ)) (p : ℕ) (n : Entry) → current status saves (cleaned p n) ≡ n.new
cleaned-new status saves p n = current-own status saves (cleaned p n) (own-valid status (cleaned p n) refl)

-- the current value depends on status and save place of the word's task alone
module _ (status status' : List ℕ) (w : Word) where
  pub own_same : eqb (at 0 status' w.task) 2 ≡ eqb (at 0 status w.task) 2 → own status' w ≡ own status w
  unfolding own
  own_same e = rw e

  pub current-same : (saves saves' : List (List ℕ)) → own status' w ≡ own status w
      → saved saves' w.task w.count ≡ saved saves w.task w.count
      → current status' saves' w ≡ current status saves w
  unfolding current current_by
  current-same saves saves' e f = rw e (go (own status w))
    where
      go : (b : Bool) → current_by b saves' w ≡ current_by b saves w
      go true = refl
      go false = f
