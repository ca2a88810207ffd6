-- What is noted of a statement: its task's operations have lost one attempt more just where the statement lost one.
use Prim.Native.Nat.{ℕ, zero, suc, ◌+◌, ◌<◌}
use mathlib.Core.Path.{◌≡◌, refl, sym, ◌∙◌, ap}
use mathlib.Core.Bool.{Bool, true, false}
use mathlib.Core.List.{List, [], ◌∷◌, ◌++◌}
use mathlib.Core.Option.{Option, none, some}
use native.Mathlib.Omega.{arith}
use lib.Dec.{eqb}
use lib.ListN.{length, length-append}
use Rattle.model.specs.Lists.{at, replace}
use Rattle.model.specs.Arguments.{Arguments}
use Rattle.model.specs.History.{Operation, History, Event, nothing, begins, amends, noted}
use Rattle.model.specs.Rates.{one_if, only_if}
use Rattle.model.specs.LostAttempts.{lost_by, lost_of, itself_if}
use Rattle.model.proofs.History.Noted.{latest_of, number_below}
use Rattle.model.proofs.History.Linked.{Open}
use Rattle.model.proofs.History.Notes.{Amends, Notes, notes_nothing, notes_begun, stays_open, ends}

-- HOW MANY, in a list of operations
pub only_none : (b : Bool) → only_if b 0 ≡ 0
only_none true = refl
only_none false = refl

lost_append : (q : ℕ) (l : List (Option Operation)) (o : Option Operation) → lost_of q (l ++ (o ∷ [])) ≡ lost_of q l + lost_by q o
unfolding lost_of
lost_append q [] o = omega arith
lost_append q (x ∷ l) o = rw (lost_append q l o) (omega arith)

lost_replaced : (q : ℕ) (l : List (Option Operation)) (n : ℕ) (o : Option Operation) → n < length l
    → lost_of q (replace l n o) + lost_by q (at none l n) ≡ lost_of q l + lost_by q o
unfolding lost_of at replace
lost_replaced q [] n o h = elim h [ ]
lost_replaced q (x ∷ l) zero o h = omega arith
lost_replaced q (x ∷ l) (suc n) o h = omega (arith, lost_replaced q l n o (omega arith))

-- one more attempt or none, of an operation of task p
one_more : (q p u : ℕ) (o o' : Operation) (loses? : Bool) → o.task ≡ p → o'.task ≡ o.task → o'.lost ≡ o.lost ++ itself_if loses? u
    → lost_by q (some o') ≡ lost_by q (some o) + only_if (eqb p q) (one_if loses?)
one_more q p u o o' loses? e t l =
    ap (λ (z : ℕ). only_if (eqb z q) (length o'.lost)) (t ∙ e)
    ∙ ap (λ (z : List ℕ). only_if (eqb p q) (length z)) l
    ∙ by (eqb p q) loses?
    ∙ ap (λ (z : ℕ). only_if (eqb z q) (length o.lost) + only_if (eqb p q) (one_if loses?)) (sym e)
  where
    by : (b c : Bool) → only_if b (length (o.lost ++ itself_if c u)) ≡ only_if b (length o.lost) + only_if b (one_if c)
    by true true = length-append o.lost (u ∷ [])
    by true false = length-append o.lost []
    by false c = refl

module _ (u p : ℕ) (h : History) (q : ℕ) where
  abbrev more : ℕ → ℕ
  more n = lost_of q h.began + only_if (eqb p q) n

  nothing-lost : lost_of q (noted u p nothing h).began ≡ more 0
  unfolding noted
  nothing-lost = rw (only_none (eqb p q)) (lost_append q h.began none)

  begins-lost : (a : Arguments) → lost_of q (noted u p (begins a) h).began ≡ more 0
  unfolding noted
  begins-lost a = lost_append q h.began _

  module _ {a : Arguments} {yes? : Bool} (o : Open h p a yes?) (f : Operation → Operation) where
    amends-lost : lost_of q (noted u p (amends f) h).began + lost_by q (some o.operation) ≡ lost_of q h.began + lost_by q (some (f o.operation))
    unfolding noted
    amends-lost =
        let n = latest_of h p in
        let e = lost_replaced q h.began n (some (f o.operation)) (number_below h n o.is) in
        rw (o.is, lost_append q (replace h.began n (some (f o.operation))) none) (omega (arith, (rw o.is at e)))

    amended_lost : {loses? : Bool} → Amends u p h o f loses? → lost_of q (noted u p (amends f) h).began ≡ more (one_if loses?)
    amended_lost {loses?} k =
        omega (arith, amends-lost, one_more q p u o.operation (f o.operation) loses? o.task k.task k.lost)

  -- by what is noted in tick u
  pub lost-next : {g g' : Option Arguments} {e : Event} {loses? : Bool} → Notes u p h g e loses? g'
      → lost_of q (noted u p e h).began ≡ more (one_if loses?)
  lost-next notes_nothing = nothing-lost
  lost-next (notes_begun a) = begins-lost a
  lost-next (stays_open o f k n) = amended_lost o f k
  lost-next (ends o f k n) = amended_lost o f k
