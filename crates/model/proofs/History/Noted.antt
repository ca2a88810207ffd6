-- What a noted event leaves: one entry a tick, one operation begun or amended, the others as they were.
use Prim.Native.Nat.{ℕ, zero, suc, ◌<◌}
use mathlib.Core.Bool.{false}
use mathlib.Core.Path.{◌≡◌, refl, sym, ◌∙◌, ap}
use mathlib.Core.Logic.{◌≢◌}
use mathlib.Core.List.{List, [], ◌∷◌, ◌++◌}
use mathlib.Core.Option.{Option, none, some}
use native.Mathlib.Omega.{arith}
use lib.ListN.{length, length-append}
use lib.Seq.{set-get_or}
use Rattle.model.specs.Lists.{at, replace}
use Rattle.model.specs.History.{Operation, operation, History, operation_at, Event, nothing, begins, amends, amend_by, noted}
use Rattle.model.specs.Arguments.{Arguments}
use Rattle.model.proofs.Lists.{same?, replace-same, replace-other, length-replace, at_below, at-past, impossible}
use Rattle.model.proofs.History.Advance.{Changed}

-- the number of a task's latest operation
abbrev pub latest_of : History → ℕ → ℕ
latest_of h p = at 0 h.latest p

abbrev pub new_operation : ℕ → Arguments → Operation
new_operation p a = operation p a none false false [] []

-- ONE ENTRY MORE at the end of a list
module _ {A : Type 0} (d : A) where
  at-end : (l : List A) (a : A) → at d (l ++ (a ∷ [])) (length l) ≡ a
  unfolding at
  at-end [] a = refl
  at-end (x ∷ l) a = at-end l a

  at-not_end : (l : List A) (a : A) (i : ℕ) → i ≢ length l → at d (l ++ (a ∷ [])) i ≡ at d l i
  unfolding at
  at-not_end [] a zero ne = absurd (ne refl)
  at-not_end [] a (suc i) ne = refl
  at-not_end (x ∷ l) a zero ne = refl
  at-not_end (x ∷ l) a (suc i) ne = at-not_end l a i (λ e. ne (ap suc e))

  at_default_end : (l : List A) (i : ℕ) → at d (l ++ (d ∷ [])) i ≡ at d l i
  at_default_end l i = same? i (length l) (λ e. rw e (at-end l d ∙ sym (at-past d l (length l) (omega arith)))) (λ ne. at-not_end l d i ne)

-- an operation's number is below the ticks done
pub number_below : (h : History) {o : Operation} (a : ℕ) → operation_at h a ≡ some o → a < length h.began
number_below h a is = at_below none h.began a (λ e. impossible (cc))

module _ (u p : ℕ) (h : History) (size : length h.began ≡ u) where
  one_longer : (l : List (Option Operation)) (o : Option Operation) → length l ≡ u → length (l ++ (o ∷ [])) ≡ suc u
  one_longer l o e = length-append l (o ∷ []) ∙ (let n = length-append l (o ∷ []) in omega arith)

  -- nothing
  pub noted_nothing : (b : ℕ) → operation_at (noted u p nothing h) b ≡ operation_at h b
  unfolding noted
  noted_nothing b = at_default_end none h.began b

  pub size-nothing : length (noted u p nothing h).began ≡ suc u
  unfolding noted
  size-nothing = one_longer h.began none size

  pub latest-nothing : (q : ℕ) → latest_of (noted u p nothing h) q ≡ latest_of h q
  unfolding noted
  latest-nothing q = refl

  -- an operation begins
  pub noted-begins : (a : Arguments) → Changed h (noted u p (begins a) h) u (new_operation p a)
  unfolding noted
  noted-begins a = record {
    here = rw (← size) (at-end none h.began (some (new_operation p a)));
    else = λ b ne. at-not_end none h.began (some (new_operation p a)) b (rw size ne);
  }

  pub size-begins : (a : Arguments) → length (noted u p (begins a) h).began ≡ suc u
  unfolding noted
  size-begins a = one_longer h.began (some (new_operation p a)) size

  pub latest-begins : (a : Arguments) → p < length h.latest → latest_of (noted u p (begins a) h) p ≡ u
  unfolding noted
  latest-begins a l = replace-same 0 h.latest p u l

  pub latest-begins_else : (a : Arguments) (q : ℕ) → q ≢ p → latest_of (noted u p (begins a) h) q ≡ latest_of h q
  unfolding noted
  latest-begins_else a q ne = replace-other 0 h.latest p q u ne

  -- the latest operation is amended
  pub noted-amends : (f : Operation → Operation) {o : Operation} → operation_at h (latest_of h p) ≡ some o
      → Changed h (noted u p (amends f) h) (latest_of h p) (f o)
  unfolding noted
  noted-amends f {o} is = record {
    here =
        at_default_end none (replace h.began (latest_of h p) (amend_by f (operation_at h (latest_of h p)))) (latest_of h p)
        ∙ replace-same none h.began (latest_of h p) _ (number_below h (latest_of h p) is) ∙ rw is refl;
    else = λ b ne.
        at_default_end none (replace h.began (latest_of h p) (amend_by f (operation_at h (latest_of h p)))) b
        ∙ replace-other none h.began (latest_of h p) b _ ne;
  }

  -- or there is none to amend
  pub noted-amends-none : (f : Operation → Operation) → operation_at h (latest_of h p) ≡ none → (b : ℕ)
      → operation_at (noted u p (amends f) h) b ≡ operation_at h b
  unfolding noted at replace
  noted-amends-none f z b =
      at_default_end none (replace h.began (latest_of h p) (amend_by f (operation_at h (latest_of h p)))) b
      ∙ ap (λ (x : Option Operation). at none (replace h.began (latest_of h p) x) b) (ap (amend_by f) z ∙ sym z)
      ∙ ap (λ (l : List (Option Operation)). at none l b) (set-get_or h.began (latest_of h p) none)

  pub size-amends : (f : Operation → Operation) → length (noted u p (amends f) h).began ≡ suc u
  unfolding noted
  size-amends f =
      one_longer (replace h.began (latest_of h p) (amend_by f (operation_at h (latest_of h p)))) none
      (length-replace h.began (latest_of h p) _ ∙ size)

  pub latest-amends : (f : Operation → Operation) (q : ℕ) → latest_of (noted u p (amends f) h) q ≡ latest_of h q
  unfolding noted
  latest-amends f q = refl

  pub latest-size : (e : Event) → length (noted u p e h).latest ≡ length h.latest
  unfolding noted
  latest-size nothing = refl
  latest-size (begins a) = length-replace h.latest p u
  latest-size (amends f) = refl
