-- The latest operation of each task, before and after a tick.
use Prim.Native.Nat.{ℕ, ◌<◌}
use mathlib.Core.Bool.{Bool}
use mathlib.Core.Path.{◌≡◌}
use mathlib.Core.Option.{Option, none, some}
use lib.ListN.{length}
use Rattle.model.specs.History.{Operation, History, operation_at, Event, nothing, begins, amends, noted}
use Rattle.model.specs.Arguments.{Arguments, read_of}
use Rattle.model.proofs.Transactions.Pass.{operation_after}
use Rattle.model.proofs.History.Noted.{latest_of, new_operation, noted_nothing, latest-nothing}
use Rattle.model.proofs.History.Noted.{noted-begins, latest-begins, noted-amends, latest-amends}
use Rattle.model.proofs.History.Notes.{Notes, notes_nothing, notes_begun, stays_open, ends}
use Rattle.model.proofs.History.Linked.{Open}

-- a task without operations has none that anything is said of
abbrev pub operation_or : Option Operation → Operation
operation_or none = new_operation 0 (read_of 0)
operation_or (some o) = o

abbrev pub latest_operation : History → ℕ → Operation
latest_operation h p = operation_or (operation_at h (latest_of h p))

module _ (u p : ℕ) (h : History) (size : length h.began ≡ u) (below : p < length h.latest) where
  after_nothing : latest_operation (noted u p nothing h) p ≡ latest_operation h p
  after_nothing = rw (latest-nothing u p h size p, noted_nothing u p h size (latest_of h p))

  after-begins : (a : Arguments) → latest_operation (noted u p (begins a) h) p ≡ new_operation p a
  after-begins a = rw (latest-begins u p h size a below, (noted-begins u p h size a).here)

  after-amends : {a : Arguments} {yes? : Bool} (o : Open h p a yes?) (f : Operation → Operation)
      → latest_operation (noted u p (amends f) h) p ≡ f (latest_operation h p)
  after-amends o f = rw (latest-amends u p h size f p, (noted-amends u p h size f o.is).here, o.is)

  pub latest-after : {g g' : Option Arguments} {e : Event} {l : Bool} → Notes u p h g e l g'
      → latest_operation (noted u p e h) p ≡ operation_after p e (latest_operation h p)
  latest-after notes_nothing = after_nothing
  latest-after (notes_begun a) = after-begins a
  latest-after (stays_open o f k n) = after-amends o f
  latest-after (ends o f k n) = after-amends o f
