-- What an exchange has done after so many ticks of its own, for each step: an equation with what was counted, and every tick keeps it.
use Prim.Native.Nat.{ℕ, suc, ◌+◌, ◌*◌, ◌<◌, ◌≤◌}
use mathlib.Core.Bool.{Bool, true, false}
use mathlib.Core.Path.{◌≡◌, refl, ◌∙◌, subst}
use mathlib.Core.Logic.{◌≢◌, ◌⊎◌, inl, inr}
use native.Mathlib.Omega.{arith}
use lib.ListN.{length}
use borrow.Author.Tests.{eq-eqb, ne_eqb}
use Rattle.model.specs.Lists.{replace}
use Rattle.model.specs.Word.{Word, same_word, Memory, cell_of, status_of}
use Rattle.model.specs.Exchange.{Entry, Step, start, test, load, look, fetch, fail, mark, install, commit, save, clean, clean_mark}
use Rattle.model.specs.Exchange.{Exchange, Exchanged, goes, ends, entry_at}
use Rattle.model.specs.ExactTicks.{Tally, tally, no_tally, exact_ticks, tally_of, TakesExactly}
use Rattle.model.proofs.Lists.{test?, replace-same, length-replace, impossible}
use Rattle.model.proofs.Exchanges.Act.{here}
use Rattle.model.proofs.Exchanges.Words.{same_word_lem, other_word}
use Rattle.model.proofs.Exchanges.Outcome.{Decides, commits, refuses, Cleans, renews, passes, gives_back, leaves, marks-after}
use Rattle.model.proofs.Exchanges.Outcome.{Outcome, starts, tests_done, tests_on, loads, looks_own, looks_other, fetches, saves_differing}
use Rattle.model.proofs.Exchanges.Outcome.{saves-to_mark, saves, fails, marks, installs, misses, decides, decides_last}
use Rattle.model.proofs.Exchanges.Outcome.{cleans, cleans_last, cleans_to_mark}

-- its marks are on other tasks
abbrev pub MarksOther : ℕ → Exchange → Step → Type 0
MarksOther p x start = Unit {0}
MarksOther p x test = Unit {0}
MarksOther p x load = Unit {0}
MarksOther p x look = Unit {0}
MarksOther p x fetch = Unit {0}
MarksOther p x (save v) = Unit {0}
MarksOther p x fail = Unit {0}
MarksOther p x mark = (here x).init.task ≢ p
MarksOther p x install = Unit {0}
MarksOther p x commit = Unit {0}
MarksOther p x (clean j yes?) = Unit {0}
MarksOther p x (clean_mark j yes?) = (entry_at x j).init.task ≢ p

abbrev pub plus : Tally → Tally → Tally
plus c d =
    tally (c.tried + d.tried) (c.differed + d.differed) (c.fetched + d.fetched) (c.marked + d.marked) (c.failed + d.failed)

-- THE TICKS OF WHAT IT DID: five for each word tried or found differing, and one for each fetch, mark and failed install
abbrev sum : Tally → ℕ
sum c = 5 * c.tried + 5 * c.differed + c.fetched + c.marked + c.failed

-- t ticks are n more than that, with i words tried of k, and at most f fetches and g marks more than one for each word done
pub record Tallied (n f g : ℕ) (t k i : ℕ) (c : Tally) : Type 0 where
  pub ticks : t ≡ n + sum c
  pub tried : c.tried ≡ i
  pub words : i + c.differed ≤ k
  pub stops : c.differed + c.failed ≤ 1
  pub fetches : c.fetched ≤ i + c.differed + f
  pub marks : c.marked ≤ i + g

-- so far no value differed and no install failed
abbrev pub Good : Tally → Type 0
Good c = (c.differed ≡ 0) × (c.failed ≡ 0)

-- at entry i
pub record AtEntry (n f g : ℕ) (t k i : ℕ) (c : Tally) : Type 0 where
  pub counted : Tallied n f g t k i c
  pub below : i < k
  pub good : Good c

-- a yes has installed all
abbrev All : ℕ → Bool → Tally → Type 0
All k yes? c = yes? ≡ true → (c.tried ≡ k) × (c.differed ≡ 0) × (c.failed ≡ 0)

-- in Clean at entry j
pub record Cleaning (n g : ℕ) (t k i j : ℕ) (yes? : Bool) (c : Tally) : Type 0 where
  pub counted : Tallied n 0 g t k i c
  pub more : j < i
  pub all : All k yes? c

-- t ticks done at that step; where Fail is next, it is counted already
abbrev pub Exact : ℕ → ℕ → ℕ → ℕ → Tally → Step → Type 0
Exact t k i status c start = (t ≡ 0) × (c ≡ no_tally)
Exact t k i status c test = Tallied 1 0 0 t k i c × (Good c ⊎ (status ≡ 1))
Exact t k i status c load = AtEntry 2 0 0 t k i c
Exact t k i status c look = AtEntry 3 0 0 t k i c
Exact t k i status c fetch = AtEntry 4 0 0 t k i c
Exact t k i status c (save v) = AtEntry 4 1 0 t k i c
Exact t k i status c fail = Tallied 0 0 0 t k i c
Exact t k i status c mark = AtEntry 5 1 0 t k i c
Exact t k i status c install = AtEntry 5 1 1 t k i c
Exact t k i status c commit = Tallied 2 0 0 t k i c × (((i ≡ k) × Good c) ⊎ (status ≡ 1))
Exact t k i status c (clean j yes?) = Cleaning (3 + j) j t k i j yes? c
Exact t k i status c (clean_mark j yes?) = Cleaning (4 + j) j t k i j yes? c

pub record Ticked (t : ℕ) (c : Tally) (k p : ℕ) (m : Memory) (x : Exchange) : Type 0 where
  pub size : length x.entries ≡ k
  pub exact : Exact t k x.i (status_of m p) c x.step

abbrev pub ExactAfter : ℕ → Tally → ℕ → ℕ → Exchanged → Type 0
ExactAfter t c k p (goes n y) = Ticked t c k p n y
ExactAfter t c k p (ends n yes?) = TakesExactly k (yes? ≡ true) t c

-- AN EXCHANGE THAT HAS ENDED: its bounds follow from the equation
takes-exactly : {n g t k i : ℕ} {c : Tally} {Yes : Type 0} → Tallied n 0 g t k i c → n ≡ 3 + i → g ≤ i
    → (Yes → (c.tried ≡ k) × (c.differed ≡ 0) × (c.failed ≡ 0)) → TakesExactly k Yes t c
takes-exactly {t = t} {k} {c = c} b e l all =
    let exact : t ≡ exact_ticks c = omega (arith, b.ticks, b.tried) in
    let words : c.tried + c.differed ≤ k = omega (arith, b.tried, b.words) in
    let stops = b.stops in
    let fetches : c.fetched ≤ c.tried + c.differed = omega (arith, b.tried, b.fetches) in
    let marks : c.marked ≤ 2 * c.tried = omega (arith, b.tried, b.marks) in
    record {
      exact = exact;
      words = words;
      stops = stops;
      fetches = fetches;
      marks = marks;
      all = all;
      most = omega (arith, exact, words, stops, fetches, marks);
      undisturbed = λ y z z'. let a = all y in omega (arith, exact, a.0, a.1, a.2);
    }

-- words that are the same, and others
same-words : (v w : Word) → v ≡ w → same_word v w ≡ true
same-words v w e = test? (same_word v w) (λ t. t) (λ f. absurd (other_word v w f e))

other-words : (v w : Word) → v ≢ w → same_word v w ≡ false
other-words v w ne = test? (same_word v w) (λ t. absurd (ne (same_word_lem v w t))) (λ f. f)

-- ONE TICK MORE, which fetches or marks at most
good-on : (c : Tally) (a m : ℕ) → Good c → Good (plus c (tally 0 0 a m 0))
good-on c a m g = (omega (arith, g.0), omega (arith, g.1))

all-on : {k : ℕ} {yes? : Bool} (c : Tally) (a m : ℕ) → All k yes? c → All k yes? (plus c (tally 0 0 a m 0))
all-on c a m h y = let b = h y in (omega (arith, b.0), omega (arith, b.1), omega (arith, b.2))

module _ {t k : ℕ} {c : Tally} where
  on : {n f g i n' f' g' : ℕ} → Tallied n f g t k i c → (a m : ℕ) → suc n ≡ n' + a + m → f + a ≤ f' → g + m ≤ g'
      → Tallied n' f' g' (suc t) k i (plus c (tally 0 0 a m 0))
  on b a m e l l' = record {
    ticks = omega (arith, b.ticks);
    tried = omega (arith, b.tried);
    words = omega (arith, b.words);
    stops = omega (arith, b.stops);
    fetches = omega (arith, b.fetches);
    marks = omega (arith, b.marks);
  }

  entry-on : {n f g i n' f' g' : ℕ} → AtEntry n f g t k i c → (a m : ℕ) → suc n ≡ n' + a + m → f + a ≤ f' → g + m ≤ g'
      → AtEntry n' f' g' (suc t) k i (plus c (tally 0 0 a m 0))
  entry-on b a m e l l' = record { counted = on b.counted a m e l l'; below = b.below; good = good-on c a m b.good }

  -- it is done with entry i: the word is tried, or its value differs, or its install failed
  entry_done : {n g i n' i' : ℕ} → AtEntry n 1 g t k i c → (a d b : ℕ) → a + d ≡ 1 → d + b ≤ 1 → g ≤ a → suc n ≡ n' + 5 + b → i' ≡ i + a
      → Tallied n' 0 0 (suc t) k i' (plus c (tally a d 0 0 b))
  entry_done h a d b one stop l e e' =
      let w = h.counted in
      record {
        ticks = omega (arith, w.ticks);
        tried = omega (arith, w.tried);
        words = omega (arith, h.below, h.good.0);
        stops = omega (arith, h.good.0, h.good.1);
        fetches = omega (arith, w.fetches, h.good.0);
        marks = omega (arith, w.marks);
      }

module _ {t : ℕ} {c : Tally} {k p : ℕ} {m : Memory} {x : Exchange} (h : Ticked t c k p m x) where
  exact_as : (s : Step) → x.step ≡ s → Exact t k x.i (status_of m p) c s
  exact_as s e = subst (λ (z : Step). Exact t k x.i (status_of m p) c z) e h.exact

  init-length : (e : Entry) → length (replace x.entries x.i e) ≡ k
  init-length e = length-replace x.entries x.i e ∙ h.size

  tested_done : (x.i ≡ length x.entries) ⊎ (status_of m p ≡ 1) → Good c ⊎ (status_of m p ≡ 1)
      → ((x.i ≡ k) × Good (plus c no_tally)) ⊎ (status_of m p ≡ 1)
  tested_done (inl e) (inl g) = inl (e ∙ h.size, good-on c 0 0 g)
  tested_done (inl e) (inr o) = inr o
  tested_done (inr o) g = inr o

  tested_on : Good c ⊎ (status_of m p ≡ 1) → status_of m p ≢ 1 → Good c
  tested_on (inl g) ne = g
  tested_on (inr o) ne = absurd (ne o)

  decided_all : {n : Memory} {yes? : Bool} → Decides p m n yes? → c.tried ≡ x.i → ((x.i ≡ k) × Good c) ⊎ (status_of m p ≡ 1)
      → All k yes? (plus c no_tally)
  decided_all (commits z) e (inl g) y = (omega (arith, g.0), omega (arith, g.1.0), omega (arith, g.1.1))
  decided_all (commits z) e (inr o) y = absurd (omega (arith, z, o))
  decided_all (refuses ne) e g y = impossible (cc)

  -- Clean, or its Mark, is done with entry j
  module _ {j : ℕ} {yes? : Bool} where
    cleaned-on : {n : ℕ} → Cleaning n j t k x.i j yes? c → (m : ℕ) → n ≡ 3 + j + m → m ≤ 1
        → Cleaning (3 + suc j) (suc j) (suc t) k x.i j yes? (plus c (tally 0 0 0 m 0))
    cleaned-on b m e l =
        record { counted = on b.counted 0 m (omega arith) (omega arith) (omega arith); more = b.more; all = all-on c 0 m b.all }

    cleaned-exact : {n : Memory} → MarksOther p x x.step → Cleans p m x j yes? n
        → Cleaning (3 + suc j) (suc j) (suc t) k x.i j yes? (plus c (tally_of p m x x.step))
    unfolding tally_of
    cleaned-exact o (renews s e g) = rw s (cleaned-on (exact_as (clean j yes?) s) 0 (omega arith) (omega arith))
    cleaned-exact o (passes s e g) = rw s (cleaned-on (exact_as (clean j yes?) s) 0 (omega arith) (omega arith))
    cleaned-exact o (gives_back s e g) = rw s (cleaned-on (exact_as (clean j yes?) s) 0 (omega arith) (omega arith))
    cleaned-exact o (leaves s e g z) = rw s (cleaned-on (exact_as (clean j yes?) s) 0 (omega arith) (omega arith))
    cleaned-exact o (marks-after s) =
        let ne : (entry_at x j).init.task ≢ p = rw s at o in
        rw (s, ne_eqb (entry_at x j).init.task p ne) (cleaned-on (exact_as (clean_mark j yes?) s) 1 (omega arith) (omega arith))

  pub tick-exact : {o : Exchanged} → p < length m.status → MarksOther p x x.step → Outcome p m x o
      → ExactAfter (suc t) (plus c (tally_of p m x x.step)) k p o
  unfolding tally_of
  tick-exact l u (starts s) =
      let b = exact_as start s in
      let first : Tallied 1 0 0 (suc t) k 0 no_tally = record {
        ticks = omega (arith, b.0);
        tried = refl;
        words = omega arith;
        stops = omega arith;
        fetches = omega arith;
        marks = omega arith;
      } in
      rw (s, b.1) (record { size = h.size; exact = (first, inl (refl, refl)) })
  tick-exact l u (tests_done s e) =
      let b = exact_as test s in
      rw s (record { size = h.size; exact = (on b.0 0 0 (omega arith) (omega arith) (omega arith), tested_done e b.1) })
  tick-exact l u (tests_on s g) =
      let b = exact_as test s in
      rw s (record {
        size = h.size;
        exact = record {
          counted = on b.0 0 0 (omega arith) (omega arith) (omega arith);
          below = omega (arith, b.0.words, h.size, g.0);
          good = good-on c 0 0 (tested_on b.1 g.1);
        };
      })
  tick-exact l u (loads s) =
      rw s (record { size = init-length _; exact = entry-on (exact_as load s) 0 0 (omega arith) (omega arith) (omega arith) })
  tick-exact l u (looks_own s w) =
      rw s (record { size = init-length _; exact = entry-on (exact_as look s) 0 0 (omega arith) (omega arith) (omega arith) })
  tick-exact l u (looks_other s w) =
      rw s (record { size = init-length _; exact = entry-on (exact_as look s) 0 0 (omega arith) (omega arith) (omega arith) })
  tick-exact l u (fetches s) =
      rw s (record { size = h.size; exact = entry-on (exact_as fetch s) 1 0 (omega arith) (omega arith) (omega arith) })
  tick-exact l u (saves_differing v s ne) =
      rw (s, ne_eqb v (here x).old ne) (record {
        size = h.size;
        exact = entry_done (exact_as (save v) s) 0 1 0 (omega arith) (omega arith) (omega arith) (omega arith) (omega arith);
      })
  tick-exact l u (saves-to_mark v s d o e) =
      rw (s, eq-eqb v (here x).old d)
      (record { size = h.size; exact = entry-on (exact_as (save v) s) 0 0 (omega arith) (omega arith) (omega arith) })
  tick-exact l u (saves v s d z) =
      rw (s, eq-eqb v (here x).old d)
      (record { size = h.size; exact = entry-on (exact_as (save v) s) 0 0 (omega arith) (omega arith) (omega arith) })
  tick-exact l u (fails s) =
      rw s (record {
        size = h.size;
        exact = (on (exact_as fail s) 0 0 (omega arith) (omega arith) (omega arith), inr (replace-same 0 m.status p 1 l));
      })
  tick-exact l u (marks s) =
      let ne : (here x).init.task ≢ p = rw s at u in
      rw (s, ne_eqb (here x).init.task p ne)
      (record { size = h.size; exact = entry-on (exact_as mark s) 0 1 (omega arith) (omega arith) (omega arith) })
  tick-exact l u (installs s e) =
      let b = exact_as install s in
      rw (s, same-words (cell_of m (here x).cell) (here x).init e) (record {
        size = h.size;
        exact = (
          entry_done b 1 0 0 (omega arith) (omega arith) (omega arith) (omega arith) (omega arith),
          inl (omega (arith, b.good.0), omega (arith, b.good.1)),
        );
      })
  tick-exact l u (misses s e) =
      rw (s, other-words (cell_of m (here x).cell) (here x).init e) (record {
        size = h.size;
        exact = entry_done (exact_as install s) 1 0 1 (omega arith) (omega arith) (omega arith) (omega arith) (omega arith);
      })
  tick-exact l u (decides s d ne) =
      let b = exact_as commit s in
      rw s (record {
        size = h.size;
        exact = record {
          counted = on b.0 0 0 (omega arith) (omega arith) (omega arith);
          more = omega arith;
          all = decided_all d b.0.tried b.1;
        };
      })
  tick-exact l u (decides_last s d z) =
      let b = exact_as commit s in
      let w : Tallied 3 0 0 (suc t) k x.i (plus c no_tally) = on b.0 0 0 (omega arith) (omega arith) (omega arith) in
      rw s (takes-exactly w (omega arith) (omega arith) (decided_all d b.0.tried b.1))
  tick-exact l u (cleans j yes? q ne) =
      let b = cleaned-exact u q in
      record { size = h.size; exact = record { counted = b.counted; more = omega (arith, b.more); all = b.all } }
  tick-exact l u (cleans_last j yes? q e) =
      let b = cleaned-exact u q in takes-exactly b.counted (omega arith) (omega arith) b.all
  tick-exact l u (cleans_to_mark j yes? s e g o) =
      let b = exact_as (clean j yes?) s in
      rw s (record {
        size = h.size;
        exact = record { counted = on b.counted 0 0 (omega arith) (omega arith) (omega arith); more = b.more; all = all-on c 0 0 b.all };
      })
