-- Every operation of a history that has ended took the ticks of its own that it may, and a tick keeps that if the operation it ends did.
use Prim.Native.Nat.{ℕ, suc}
use mathlib.Core.Bool.{Bool}
use mathlib.Core.Path.{◌≡◌, refl, sym, ◌∙◌}
use mathlib.Core.Option.{Option, none, some}
use lib.ListN.{length}
use Rattle.model.specs.Machine.{Running}
use Rattle.model.specs.History.{Operation, History, operation_at, Event, nothing, begins, amends, noted}
use Rattle.model.specs.Rates.{own_before}
use Rattle.model.specs.ExactTicks.{Tally, tally_before}
use Rattle.model.specs.Arguments.{Arguments}
use Rattle.model.proofs.Lists.{same?, impossible}
use Rattle.model.proofs.History.Advance.{Changed}
use Rattle.model.proofs.History.Noted.{latest_of, noted_nothing, noted-begins, noted-amends}
use Rattle.model.proofs.History.Notes.{Notes, notes_nothing, notes_begun, stays_open, ends}
use Rattle.model.proofs.History.Linked.{Open}
use Rattle.model.proofs.Rates.Timely.{Rate, RateBy, amended}

-- `who` does the statements, and task p does `what p` in them
pub record InTime (who : ℕ → Running) (what : ℕ → ℕ → Tally) (h : History) : Type 0 where
  pub ended : (a l : ℕ) (o : Operation) → operation_at h a ≡ some o → o.last ≡ some l
      → Rate o.arguments o.answers (own_before who o.task a (suc l)) (tally_before (what o.task) a (suc l))

-- none is not some
pub not_some : {A B : Type 0} {a : A} → none ≡ some a → B
not_some e = impossible (cc)

pub the_same : {A : Type 0} {a b : A} → some a ≡ some b → a ≡ b
the_same e = cc

module _ (who : ℕ → Running) (what : ℕ → ℕ → Tally) (u p : ℕ) (h : History) (size : length h.began ≡ u) (k : InTime who what h) where
  same_in_time : (h' : History) → ((b : ℕ) → operation_at h' b ≡ operation_at h b) → InTime who what h'
  same_in_time h' e = record { ended = λ a l o is z. k.ended a l o (sym (e a) ∙ is) z }

  -- operation n is o afterwards
  changed_in_time : {h' : History} {n : ℕ} {o : Operation} → Changed h h' n o
      → ((l : ℕ) → o.last ≡ some l
      → Rate o.arguments o.answers (own_before who o.task n (suc l)) (tally_before (what o.task) n (suc l))) → InTime who what h'
  changed_in_time {n = n} {o} c f = record {
    ended = λ a l q is z. same? a n
        (λ e. let same : o ≡ q = the_same (sym c.here ∙ (rw e at is)) in rw (e, ← same) (f l (rw (← same) at z)))
        (λ ne. k.ended a l q (sym (c.else a ne) ∙ is) z);
  }

  pub nothing_in_time : InTime who what (noted u p nothing h)
  nothing_in_time = same_in_time (noted u p nothing h) (noted_nothing u p h size)

  begins_in_time : (a : Arguments) → InTime who what (noted u p (begins a) h)
  begins_in_time a = changed_in_time (noted-begins u p h size a) (λ l z. not_some z)

  module _ {a : Arguments} {yes? : Bool} (o : Open h p a yes?) (f : Operation → Operation) where
    stays_in_time : (f o.operation).last ≡ none → InTime who what (noted u p (amends f) h)
    stays_in_time n = changed_in_time (noted-amends u p h size f o.is) (λ l z. not_some (sym n ∙ z))

    ends_in_time : (f o.operation).task ≡ o.operation.task → (f o.operation).arguments ≡ o.operation.arguments
        → (f o.operation).last ≡ some u
        → Rate a (f o.operation).answers (own_before who p (latest_of h p) (suc u)) (tally_before (what p) (latest_of h p) (suc u)) → InTime who what (noted u p (amends f) h)
    ends_in_time t g e r =
        changed_in_time (noted-amends u p h size f o.is)
        (λ l z. let same : u ≡ l = the_same (sym e ∙ z) in rw (g ∙ o.arguments, t ∙ o.task, ← same) r)

  -- `rate` of the operation that this tick ends
  pub in_time : {g g' : Option Arguments} {e : Event} {l : Bool} → Notes u p h g e l g'
      → (g' ≡ none → (o : Operation)
      → RateBy g (amended e o).answers (own_before who p (latest_of h p) (suc u)) (tally_before (what p) (latest_of h p) (suc u))) → InTime who what (noted u p e h)
  in_time notes_nothing rate = nothing_in_time
  in_time (notes_begun a) rate = begins_in_time a
  in_time (stays_open o f k n) rate = stays_in_time o f n
  in_time (ends o f k n) rate = ends_in_time o f k.task k.arguments n (rate refl o.operation)
