-- The ticks in which an operation has lost its attempts: just those of which a test holds, from its first tick to its last or so far.
use Prim.Native.Nat.{ℕ, zero, suc, ◌≤◌}
use mathlib.Core.Path.{◌≡◌, refl, sym, ◌∙◌, ap}
use mathlib.Core.Bool.{Bool, false}
use mathlib.Core.Logic.{◌≢◌}
use mathlib.Core.List.{List, [], ◌++◌, append-nil}
use mathlib.Core.Option.{Option, none, some}
use native.Mathlib.Omega.{arith}
use lib.Dec.{leb}
use lib.ListN.{length}
use borrow.Author.Tests.{le-leb, lt-leb}
use Rattle.model.specs.Arguments.{Arguments}
use Rattle.model.specs.History.{Operation, History, operation_at, Event, nothing, begins, amends, noted}
use Rattle.model.specs.LostAttempts.{itself_if, ticks_where, after_last}
use Rattle.model.proofs.Lists.{same?}
use Rattle.model.proofs.History.Noted.{latest_of, number_below, noted_nothing, noted-begins, noted-amends}
use Rattle.model.proofs.History.Linked.{Open}
use Rattle.model.proofs.History.Notes.{Amends, Notes, notes_nothing, notes_begun, stays_open, ends}
use Rattle.model.proofs.Rates.Ended.{the_same}
use Rattle.model.proofs.LostAttempts.Statement.{and_false}

-- ONE TICK MORE
module _ (is? : ℕ → Bool) (a : ℕ) where
  pub ticks-none : (n : ℕ) → n ≤ a → ticks_where is? a n ≡ []
  unfolding ticks_where
  ticks-none zero h = refl
  ticks-none (suc n) h = rw (lt-leb a n (omega arith), ticks-none n (omega arith)) refl

  ticks-next : (n : ℕ) → a ≤ n → ticks_where is? a (suc n) ≡ ticks_where is? a n ++ itself_if (is? n) n
  unfolding ticks_where
  ticks-next n h = rw (le-leb a n h) refl

  ticks-same : (n : ℕ) → is? n ≡ false → ticks_where is? a (suc n) ≡ ticks_where is? a n
  unfolding ticks_where
  ticks-same n e = rw (e, and_false (leb a n)) (append-nil (ticks_where is? a n))

-- after n ticks, the test being of a task and a tick
pub record InTicks (is? : ℕ → ℕ → Bool) (n : ℕ) (h : History) : Type 0 where
  pub each : (a : ℕ) (o : Operation) → operation_at h a ≡ some o → o.lost ≡ ticks_where (is? o.task) a (after_last o.last n)

-- tick u of task p, of which alone the test may hold; of each task the latest operation alone is open
module _ (is? : ℕ → ℕ → Bool) (u p : ℕ) (h : History) (size : length h.began ≡ u) (k : InTicks is? u h)
    (others : (q : ℕ) → q ≢ p → is? q u ≡ false)
    (latest : (a : ℕ) (o : Operation) → operation_at h a ≡ some o → o.last ≡ none → latest_of h o.task ≡ a) where
  -- an operation that is left as it is
  left : (a : ℕ) (o : Operation) → operation_at h a ≡ some o → (o.task ≡ p → o.last ≡ none → is? p u ≡ false)
      → o.lost ≡ ticks_where (is? o.task) a (after_last o.last (suc u))
  left a o is f = k.each a o is ∙ go o.last refl
    where
      go : (l : Option ℕ) → o.last ≡ l → ticks_where (is? o.task) a (after_last l u) ≡ ticks_where (is? o.task) a (after_last l (suc u))
      go (some l) e = refl
      go none e =
          sym (ticks-same (is? o.task) a u (same? o.task p (λ z. ap (λ (q : ℕ). is? q u) z ∙ f z e) (λ d. others o.task d)))

  -- nothing is noted, or an operation begins
  module _ (none_here : is? p u ≡ false) where
    nothing-ticks : InTicks is? (suc u) (noted u p nothing h)
    nothing-ticks = record { each = λ a o is. left a o (sym (noted_nothing u p h size a) ∙ is) (λ e n. none_here) }

    begins-ticks : (g : Arguments) → InTicks is? (suc u) (noted u p (begins g) h)
    begins-ticks g = let c = noted-begins u p h size g in
        record {
          each = λ a o is. same? a u
              (λ e. rw (e, ← the_same (sym c.here ∙ (rw e at is)))
              (sym (ticks-same (is? p) u u none_here ∙ ticks-none (is? p) u u (omega arith))))
              (λ ne. left a o (sym (c.else a ne) ∙ is) (λ e n. none_here));
        }

  -- the open operation is amended
  module _ {g : Arguments} {yes? : Bool} (o : Open h p g yes?) (f : Operation → Operation) {loses? : Bool} (here : is? p u ≡ loses?)
      (am : Amends u p h o f loses?) (last : after_last (f o.operation).last (suc u) ≡ suc u) where
    amended : (f o.operation).lost ≡ ticks_where (is? (f o.operation).task) (latest_of h p) (after_last (f o.operation).last (suc u))
    amended =
        let n = latest_of h p in
        let before : n ≤ u = omega (arith, number_below h n o.is) in
        let was = k.each n o.operation o.is in
        rw (last, am.task ∙ o.task)
        (am.lost
        ∙ ap (λ (l : List ℕ). l ++ itself_if loses? u) (rw (o.unended, o.task) at was)
        ∙ ap (λ (b : Bool). ticks_where (is? p) n u ++ itself_if b u) (sym here)
        ∙ sym (ticks-next (is? p) n u before))

    amends-ticks : InTicks is? (suc u) (noted u p (amends f) h)
    amends-ticks = let c = noted-amends u p h size f o.is in
        record {
          each = λ a q is. same? a (latest_of h p)
              (λ e. rw (e, ← the_same (sym c.here ∙ (rw e at is))) amended)
              (λ ne. let was = sym (c.else a ne) ∙ is in left a q was (λ e n. absurd (ne (sym (rw e at (latest a q was n))))));
        }

  -- by what is noted
  pub ticks-noted : {g g' : Option Arguments} {e : Event} {loses? : Bool} → Notes u p h g e loses? g' → is? p u ≡ loses?
      → InTicks is? (suc u) (noted u p e h)
  ticks-noted notes_nothing z = nothing-ticks z
  ticks-noted (notes_begun a) z = begins-ticks z a
  ticks-noted (stays_open o f am n) z = amends-ticks o f z am (rw n refl)
  ticks-noted (ends o f am n) z = amends-ticks o f z am (rw n refl)
