-- The fates of arrivals: one more arrival, and the first of a task that waits starts a job.
use Prim.Native.Nat.{ℕ, ◌+◌}
use mathlib.Core.Path.{◌≡◌, refl, sym, ◌∙◌, ap}
use mathlib.Core.Bool.{Bool, true, false, ◌&&◌}
use mathlib.Core.Logic.{◌≢◌}
use mathlib.Core.List.{List, [], ◌∷◌, ◌++◌, map, append-nil}
use native.Mathlib.Omega.{arith}
use lib.Dec.{eqb}
use lib.ListN.{length, length-append}
use borrow.Author.Tests.{ne_eqb, eqb-true}
use Rattle.model.specs.Command.{Release}
use Rattle.model.specs.Machine.{Fate, started_job, waits, neither}
use Rattle.model.specs.Arrivals.{waits?, Arrival, arrival, waits_for, first_starts_by, first_starts, kept_by, with_fate}
use Rattle.model.specs.Rates.{one_if}
use Rattle.model.specs.Drops.{release_of, number}
use Rattle.model.proofs.Lists.{test?}
use Rattle.model.proofs.Fit.Elements.{and_left, and_right}

kept-number : (b : Bool) (r : Release) (l : List Release) → length (kept_by b r l) ≡ length l + one_if b
kept-number true r l = omega arith
kept-number false r l = omega arith

kept_append : (b : Bool) (r : Release) (l k : List Release) → kept_by b r (l ++ k) ≡ kept_by b r l ++ k
kept_append true r l k = refl
kept_append false r l k = refl

and_no : (b : Bool) → b && false ≡ false
and_no true = refl
and_no false = refl

and_yes : (b : Bool) → b && true ≡ b
and_yes true = refl
and_yes false = refl

module _ (is? : Fate → Bool) (p : ℕ) where
  -- ONE MORE ARRIVAL
  with_append : (xs : List Arrival) (r : Release) (f : Fate)
      → with_fate is? p (xs ++ (arrival r f ∷ [])) ≡ with_fate is? p xs ++ kept_by (eqb r.task p && is? f) r []
  unfolding with_fate
  with_append [] r f = refl
  with_append (a ∷ xs) r f =
      ap (kept_by (eqb a.release.task p && is? a.fate) a.release) (with_append xs r f)
      ∙ kept_append (eqb a.release.task p && is? a.fate) a.release (with_fate is? p xs) _

  module _ (xs : List Arrival) (r : Release) (f : Fate) where
    -- with such a fate
    pub append_is : is? f ≡ true → with_fate is? p (xs ++ (arrival r f ∷ [])) ≡ with_fate is? p xs ++ kept_by (eqb r.task p) r []
    append_is e = with_append xs r f ∙ rw (e, and_yes (eqb r.task p)) refl

    pub append_number : is? f ≡ true → number is? p (xs ++ (arrival r f ∷ [])) ≡ number is? p xs + one_if (eqb r.task p)
    append_number e =
        ap length (append_is e)
        ∙ length-append (with_fate is? p xs) (kept_by (eqb r.task p) r [])
        ∙ ap (λ (n : ℕ). number is? p xs + n) (kept-number (eqb r.task p) r [] ∙ omega arith)

    -- with another
    pub append_not : is? f ≡ false → with_fate is? p (xs ++ (arrival r f ∷ [])) ≡ with_fate is? p xs
    append_not e = with_append xs r f ∙ rw (e, and_no (eqb r.task p)) (append-nil (with_fate is? p xs))

-- THE FIRST OF TASK p THAT WAITS starts a job in tick t
is-waits : (f : Fate) → waits? f ≡ true → f ≡ waits
is-waits (started_job t) e = cc
is-waits waits e = refl
is-waits neither e = cc

module _ (p t : ℕ) where
  pub first-releases : (xs : List Arrival) → map release_of (first_starts p t xs) ≡ map release_of xs
  unfolding first_starts
  first-releases [] = refl
  first-releases (a ∷ xs) = go (waits_for p a) (first-releases xs)
    where
      go : (b : Bool) → map release_of (first_starts p t xs) ≡ map release_of xs
          → map release_of (first_starts_by b t a xs (first_starts p t xs)) ≡ a.release ∷ map release_of xs
      go true e = refl
      go false e = ap (λ (l : List Release). a.release ∷ l) e

  -- it waits no more, and the others of its task do
  pub first-waits : (xs : List Arrival) {r : Release} {l : List Release} → with_fate waits? p xs ≡ r ∷ l → with_fate waits? p (first_starts p t xs) ≡ l
  unfolding first_starts with_fate
  first-waits [] e = cc
  first-waits (a ∷ xs) {r} {l} e = test? (waits_for p a)
      (λ w. rw (w, and_no (eqb a.release.task p)) (rest (rw w at e)))
      (λ w. rw (w, w) (first-waits xs (rw w at e)))
    where
      rest : a.release ∷ with_fate waits? p xs ≡ r ∷ l → with_fate waits? p xs ≡ l
      rest e = cc

  -- so do those of other tasks
  pub others_wait : (q : ℕ) → q ≢ p → (xs : List Arrival) → with_fate waits? q (first_starts p t xs) ≡ with_fate waits? q xs
  unfolding first_starts with_fate
  others_wait q d [] = refl
  others_wait q d (a ∷ xs) = test? (waits_for p a)
      (λ w.
      let e = eqb-true a.release.task p (and_left (eqb a.release.task p) (waits? a.fate) w) in
      let other : eqb a.release.task q ≡ false = ne_eqb a.release.task q (λ z. d (sym z ∙ e)) in
      rw (w, other))
      (λ w. rw w (ap (kept_by (waits_for q a) a.release) (others_wait q d xs)))

  -- it is counted among those that started
  first-both : (is? : Fate → Bool) → is? waits ≡ false → (q : ℕ) (xs : List Arrival) {r : Release} {l : List Release}
      → with_fate waits? p xs ≡ r ∷ l → number is? q (first_starts p t xs) ≡ number is? q xs + one_if (eqb p q && is? (started_job t))
  unfolding first_starts with_fate
  first-both is? out q [] e = cc
  first-both is? out q (a ∷ xs) {r} {l} e = test? (waits_for p a)
      (λ w.
      let task = eqb-true a.release.task p (and_left (eqb a.release.task p) (waits? a.fate) w) in
      let fate = is-waits a.fate (and_right (eqb a.release.task p) (waits? a.fate) w) in
      rw (w, fate, out, and_no (eqb a.release.task q), task) (kept-number (eqb p q && is? (started_job t)) _ (with_fate is? q xs)))
      (λ w. rw w (same (eqb a.release.task q && is? a.fate) (first-both is? out q xs (rw w at e))))
    where
      same : (b : Bool) → number is? q (first_starts p t xs) ≡ number is? q xs + one_if (eqb p q && is? (started_job t))
          → length (kept_by b a.release (with_fate is? q (first_starts p t xs)))
          ≡ length (kept_by b a.release (with_fate is? q xs)) + one_if (eqb p q && is? (started_job t))
      same true e = omega arith
      same false e = e

  module _ (is? : Fate → Bool) (out : is? waits ≡ false) (q : ℕ) (xs : List Arrival) {r : Release} {l : List Release}
      (w : with_fate waits? p xs ≡ r ∷ l) where
    pub first-number : is? (started_job t) ≡ true → number is? q (first_starts p t xs) ≡ number is? q xs + one_if (eqb p q)
    first-number e = first-both is? out q xs w ∙ rw (e, and_yes (eqb p q)) refl

    -- and nowhere else
    pub first-not : is? (started_job t) ≡ false → number is? q (first_starts p t xs) ≡ number is? q xs
    first-not e = first-both is? out q xs w ∙ rw (e, and_no (eqb p q)) (omega arith)
