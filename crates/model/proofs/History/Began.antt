-- Every operation of a run began in a statement of its task.
use Prim.Native.Nat.{ℕ, zero, suc}
use mathlib.Core.Path.{◌≡◌, refl, sym, ◌∙◌, ap, subst}
use mathlib.Core.Option.{Option, none, some}
use lib.ListN.{length}
use Rattle.model.specs.Lists.{at}
use Rattle.model.specs.Job.{Deed, nothing_done, began, read_gave, swap_committed, swap_answered, get_gave, attempt_lost}
use Rattle.model.specs.Job.{transaction_committed, transaction_ended, ended_untouched, ended_spent}
use Rattle.model.specs.Machine.{Machine, Running, nobody, running, running_of, turn_of}
use Rattle.model.specs.History.{Operation, History, operation_at, Event, nothing, begins, amends, event_of, noted, observed}
use Rattle.model.proofs.Lists.{same?, impossible}
use Rattle.model.proofs.History.Noted.{latest_of, noted_nothing, noted-begins, noted-amends, noted-amends-none}
use Rattle.model.proofs.History.Steps.{arrived_at, seen_after, history_after, history-next}
use Rattle.model.proofs.History.Ticks.{Started, arrived-now, arrived_linked}

-- amending an operation leaves its task
abbrev KeepsTask : Event → Type 0
KeepsTask nothing = Unit {0}
KeepsTask (begins given) = Unit {0}
KeepsTask (amends f) = (o : Operation) → (f o).task ≡ o.task

event_task : (t : ℕ) (d : Deed) → KeepsTask (event_of t d)
unfolding event_of
event_task t nothing_done = tt
event_task t (began given) = tt
event_task t (read_gave v) = λ o. refl
event_task t swap_committed = λ o. refl
event_task t (swap_answered yes?) = λ o. refl
event_task t (get_gave v) = λ o. refl
event_task t attempt_lost = λ o. refl
event_task t transaction_committed = λ o. refl
event_task t transaction_ended = λ o. refl
event_task t ended_untouched = λ o. refl
event_task t ended_spent = λ o. refl

abbrev Since : (ℕ → Running) → History → Type 0
Since who h = (a : ℕ) (o : Operation) → operation_at h a ≡ some o → who a ≡ running o.task

module _ (who : ℕ → Running) (h : History) (u p : ℕ) (size : length h.began ≡ u) (runs : who u ≡ running p) (since : Since who h) where
  -- the latest operation is amended, if there is one
  amended_since : (f : Operation → Operation) → KeepsTask (amends f) → Since who (noted u p (amends f) h)
  amended_since f keeps a o is = go (operation_at h (latest_of h p)) refl
    where
      go : (x : Option Operation) → operation_at h (latest_of h p) ≡ x → who a ≡ running o.task
      go none z = since a o (sym (noted-amends-none u p h size f z a) ∙ is)
      go (some o') z =
          let c = noted-amends u p h size f z in
          same? a (latest_of h p)
          (λ e.
          let g : operation_at (noted u p (amends f) h) (latest_of h p) ≡ some o = rw e at is in
          let k = c.here in
          let same : o ≡ f o' = cc in
          rw (e, same, keeps o') (since (latest_of h p) o' z))
          (λ ne. since a o (sym (c.else a ne) ∙ is))

  event_since : (e : Event) → KeepsTask e → Since who (noted u p e h)
  event_since nothing keeps a o is = since a o (sym (noted_nothing u p h size a) ∙ is)
  event_since (begins given) keeps a o is =
      let c = noted-begins u p h size given in
      same? a u
      (λ e. let g : operation_at (noted u p (begins given) h) u ≡ some o = rw e at is in let k = c.here in let same : o.task ≡ p = cc in rw (e, same) runs)
      (λ ne. since a o (sym (c.else a ne) ∙ is))
  event_since (amends f) keeps a o is = amended_since f keeps a o is

module _ {m : Machine} (s : Started m) where
  abbrev who : ℕ → Running
  who t = running_of (arrived_at m t)

  observed_since : (t : ℕ) → Since who (history_after m t) → Since who (observed (arrived_at m t) (who t) (history_after m t))
  unfolding observed
  observed_since t since = go (who t) refl
    where
      h : History
      h = history_after m t

      n : Machine
      n = arrived_at m t

      size : length h.began ≡ n.now
      size = (arrived_linked s t).linked.size

      go : (r : Running) → who t ≡ r → Since who (observed n r h)
      go nobody e = λ a o is. since a o (sym (noted_nothing n.now 0 h size a) ∙ is)
      go (running p) e =
          event_since who h n.now p size (ap who (arrived-now s t) ∙ e) since (event_of n.now (turn_of n p).did)
          (event_task n.now (turn_of n p).did)

  none-began : Since who (history_after m 0)
  unfolding history_after seen_after at
  none-began a o is = impossible (cc)

  pub operations_began : (t : ℕ) → Since who (history_after m t)
  operations_began zero = none-began
  operations_began (suc t) = subst (Since who) (sym (history-next m t)) (observed_since t (operations_began t))
