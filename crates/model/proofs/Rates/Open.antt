-- An operation that has not ended is its task's latest, and its task is inside it: every tick keeps that.
use Prim.Native.Nat.{ℕ, ◌<◌}
use mathlib.Core.Bool.{Bool}
use mathlib.Core.Path.{◌≡◌, sym, ◌∙◌, ap}
use mathlib.Core.Logic.{◌≢◌}
use mathlib.Core.Option.{Option, none, some}
use lib.ListN.{length}
use Rattle.model.specs.History.{Operation, History, operation_at, Event, nothing, begins, amends, noted}
use Rattle.model.specs.Arguments.{Arguments}
use Rattle.model.proofs.Lists.{same?}
use Rattle.model.proofs.History.Advance.{Changed}
use Rattle.model.proofs.History.Noted.{latest_of, new_operation, noted_nothing, latest-nothing, noted-begins}
use Rattle.model.proofs.History.Noted.{latest-begins, latest-begins_else, noted-amends, latest-amends}
use Rattle.model.proofs.History.Notes.{Notes, notes_nothing, notes_begun, stays_open, ends}
use Rattle.model.proofs.History.Linked.{Open}
use Rattle.model.proofs.Rates.Ended.{not_some, the_same}

-- where operation a with task and arguments stands, the tasks being inside operations with the arguments `inside`
pub record Stands (h : History) (inside : ℕ → Option Arguments) (a : ℕ) (o : Operation) : Type 0 where
  pub latest : latest_of h o.task ≡ a
  pub arguments : inside o.task ≡ some o.arguments

pub record Unended (h : History) (inside : ℕ → Option Arguments) : Type 0 where
  pub stands : (a : ℕ) (o : Operation) → operation_at h a ≡ some o → o.last ≡ none → Stands h inside a o

-- tick u of task p
module _ (u p : ℕ) (h : History) (size : length h.began ≡ u) (below : p < length h.latest) (inside inside' : ℕ → Option Arguments)
    (else : (q : ℕ) → q ≢ p → inside' q ≡ inside q) (k : Unended h inside) where
  -- an operation of another task
  other_stands : {h' : History} {a : ℕ} {o : Operation} → ((q : ℕ) → q ≢ p → latest_of h' q ≡ latest_of h q) → operation_at h a ≡ some o → o.last ≡ none
      → o.task ≢ p → Stands h' inside' a o
  other_stands {a = a} {o} l is n ne =
      let s = k.stands a o is n in record { latest = l o.task ne ∙ s.latest; arguments = else o.task ne ∙ s.arguments }

  -- task p is outside, so that it has none
  outside-none : (a : ℕ) {o : Operation} → inside p ≡ none → operation_at h a ≡ some o → o.last ≡ none → o.task ≢ p
  outside-none a {o} g is n e = not_some (sym g ∙ (rw e at (k.stands a o is n).arguments))

  nothing_unended : inside' p ≡ inside p → Unended (noted u p nothing h) inside'
  nothing_unended g = record {
    stands = λ a o is n.
        let s = k.stands a o (sym (noted_nothing u p h size a) ∙ is) n in
        record {
          latest = latest-nothing u p h size o.task ∙ s.latest;
          arguments = same? o.task p (λ e. rw e (g ∙ (rw e at s.arguments))) (λ ne. else o.task ne ∙ s.arguments);
        };
  }

  begins_unended : (a : Arguments) → inside p ≡ none → inside' p ≡ some a → Unended (noted u p (begins a) h) inside'
  begins_unended a g g' = record {
    stands = λ b o is n. same? b u
        (λ e. let same : new_operation p a ≡ o = the_same (sym c.here ∙ (rw e at is)) in
        rw (← same, e) (record { latest = latest-begins u p h size a below; arguments = g' }))
        (λ ne. let was = sym (c.else b ne) ∙ is in other_stands (latest-begins_else u p h size a) was n (outside-none b g was n));
  }
    where
      c : Changed h (noted u p (begins a) h) u (new_operation p a)
      c = noted-begins u p h size a

  module _ {a : Arguments} {yes? : Bool} (o : Open h p a yes?) (f : Operation → Operation) where
    abbrev h' : History
    h' = noted u p (amends f) h

    changed : Changed h h' (latest_of h p) (f o.operation)
    changed = noted-amends u p h size f o.is

    -- an operation that is not task p's latest
    else_stands : (b : ℕ) (q : Operation) → b ≢ latest_of h p → operation_at h' b ≡ some q → q.last ≡ none → Stands h' inside' b q
    else_stands b q ne is n =
        let was = sym (changed.else b ne) ∙ is in
        other_stands (λ r d. latest-amends u p h size f r) was n (λ e. ne (sym (k.stands b q was n).latest ∙ ap (latest_of h) e))

    stays_unended : (f o.operation).task ≡ o.operation.task → (f o.operation).arguments ≡ o.operation.arguments → inside' p ≡ some a
        → Unended h' inside'
    stays_unended t g i = record {
      stands = λ b q is n. same? b (latest_of h p)
          (λ e. let same : f o.operation ≡ q = the_same (sym changed.here ∙ (rw e at is)) in
          rw (← same) (record {
            latest = ap (latest_of h') (t ∙ o.task) ∙ latest-amends u p h size f p ∙ sym e;
            arguments = ap inside' (t ∙ o.task) ∙ i ∙ ap some (sym (g ∙ o.arguments));
          }))
          (λ ne. else_stands b q ne is n);
    }

    ends_unended : (f o.operation).last ≡ some u → Unended h' inside'
    ends_unended l = record {
      stands = λ b q is n. same? b (latest_of h p)
          (λ e. let same : f o.operation ≡ q = the_same (sym changed.here ∙ (rw e at is)) in not_some (sym n ∙ (rw same at l)))
          (λ ne. else_stands b q ne is n);
    }

  pub unended : {g g' : Option Arguments} {e : Event} {l : Bool} → Notes u p h g e l g' → inside p ≡ g → inside' p ≡ g'
      → Unended (noted u p e h) inside'
  unended notes_nothing i i' = nothing_unended (i' ∙ sym i)
  unended (notes_begun a) i i' = begins_unended a i i'
  unended (stays_open o f k n) i i' = stays_unended o f k.task k.arguments i'
  unended (ends o f k n) i i' = ends_unended o f n
