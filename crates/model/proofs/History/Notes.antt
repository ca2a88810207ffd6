-- What a move notes in the history: nothing, an operation begun, or the open one amended, which stays open or ends; and whether it lost an attempt.
use Prim.Native.Nat.{ℕ}
use mathlib.Core.Bool.{Bool, true, false}
use mathlib.Core.Path.{◌≡◌, refl, sym}
use mathlib.Core.List.{◌++◌, append-nil}
use mathlib.Core.Option.{Option, none, some}
use Rattle.model.specs.Job.{Deed, nothing_done, began, read_gave, swap_committed, swap_answered, get_gave, attempt_lost}
use Rattle.model.specs.Job.{transaction_committed, transaction_ended, ended_untouched, ended_spent}
use Rattle.model.specs.Arguments.{Arguments}
use Rattle.model.specs.History.{Operation, History, Event, nothing, begins, amends, event_of}
use Rattle.model.specs.LostAttempts.{itself_if}
use Rattle.model.proofs.History.Moves.{Settling, Moves, stays_outside, begun, goes_on, gets, loses, read_ends}
use Rattle.model.proofs.History.Moves.{swap_commits, swap_ends, swap_commits_and_ends, swap_rejected, transaction_commits}
use Rattle.model.proofs.History.Moves.{transaction_ends, transaction_commits_and_ends, nothing_touched, ends_spent}
use Rattle.model.proofs.History.Linked.{Open, OpenBy}

abbrev pub lost? : Deed → Bool
lost? nothing_done = false
lost? (began a) = false
lost? (read_gave v) = false
lost? swap_committed = false
lost? (swap_answered yes?) = false
lost? (get_gave v) = false
lost? attempt_lost = true
lost? transaction_committed = false
lost? transaction_ended = false
lost? ended_untouched = false
lost? ended_spent = false

module _ (u p : ℕ) (h : History) where
  -- task p's open operation, amended in tick u, having lost an attempt in it or not
  pub record Amends {a : Arguments} {yes? : Bool} (o : Open h p a yes?) (f : Operation → Operation) (loses? : Bool) : Type 0 where
    pub task : (f o.operation).task ≡ o.operation.task
    pub arguments : (f o.operation).arguments ≡ o.operation.arguments
    pub lost : (f o.operation).lost ≡ o.operation.lost ++ itself_if loses? u

  -- the task being given some arguments before and after it
  pub data Notes : Option Arguments → Event → Bool → Option Arguments → Type 0 where
    notes_nothing : {g : Option Arguments} → Notes g nothing false g
    notes_begun : (a : Arguments) → Notes none (begins a) false (some a)
    stays_open : {a : Arguments} {yes? : Bool} (o : Open h p a yes?) (f : Operation → Operation) {loses? : Bool} → Amends o f loses?
        → (f o.operation).last ≡ none → Notes (some a) (amends f) loses? (some a)
    ends : {a : Arguments} {yes? : Bool} (o : Open h p a yes?) (f : Operation → Operation) {loses? : Bool} → Amends o f loses?
        → (f o.operation).last ≡ some u → Notes (some a) (amends f) loses? none

  -- one that loses none
  keeps : {a : Arguments} {yes? : Bool} {o : Open h p a yes?} (f : Operation → Operation) → (f o.operation).task ≡ o.operation.task
      → (f o.operation).arguments ≡ o.operation.arguments → (f o.operation).lost ≡ o.operation.lost → Amends o f false
  keeps {o = o} f t g l = record { task = t; arguments = g; lost = rw l (sym (append-nil o.operation.lost)) }

  pub notes : {g g' : Option Arguments} {b b' : Bool} {d : Deed} {s : Settling} → Moves g b d s g' b' → OpenBy h p g b
      → Notes g (event_of u d) (lost? d) g'
  unfolding event_of
  notes stays_outside o = notes_nothing
  notes (begun {a = a}) o = notes_begun a
  notes goes_on o = notes_nothing
  notes (gets v) o = stays_open o _ (keeps _ refl refl refl) o.unended
  notes loses o = stays_open o _ (record { task = refl; arguments = refl; lost = refl }) o.unended
  notes (read_ends v) o = ends o _ (keeps _ refl refl refl) refl
  notes swap_commits o = stays_open o _ (keeps _ refl refl refl) o.unended
  notes swap_ends o = ends o _ (keeps _ refl refl refl) refl
  notes swap_commits_and_ends o = ends o _ (keeps _ refl refl refl) refl
  notes swap_rejected o = ends o _ (keeps _ refl refl refl) refl
  notes transaction_commits o = stays_open o _ (keeps _ refl refl refl) o.unended
  notes transaction_ends o = ends o _ (keeps _ refl refl refl) refl
  notes transaction_commits_and_ends o = ends o _ (keeps _ refl refl refl) refl
  notes nothing_touched o = ends o _ (keeps _ refl refl refl) refl
  notes ends_spent o = ends o _ (keeps _ refl refl refl) refl
