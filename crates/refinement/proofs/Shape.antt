-- The sizes of the records, what the view of a job does not show, and what it means that a statement is the model's.
use Prim.Native.Nat.{ℕ, ◌<◌, ◌≤◌}
use mathlib.Core.Path.{◌≡◌}
use mathlib.Core.List.{List}
use Rattle.model.specs.Command as C
use Rattle.model.specs.Word as W
use Rattle.model.specs.Job as J
use Rattle.commands.specs.declared.BodyCommand.{BodyCommand}
use Rattle.state.specs.State.{Shared, Entries, Own}
use Rattle.state.specs.Sized.{SharedSized, OwnSized}
use Rattle.state.specs.Held.{memory_of}
use Rattle.exchanges.specs.Places.{Noted}
use Rattle.jobs.specs.declared.Phase.{Phase}
use Rattle.jobs.specs.declared.Job.{Job}
use Rattle.refinement.proofs.View.{entries_of, pairs_of, task_of}

-- THE SHAPE OF A JOB whose body ends before a line
-- nothing is loaded yet for the waiting PAIRs
abbrev pub Unloaded : ℕ → Entries → Type 0
Unloaded k e = entries_of k e ≡ pairs_of k e

pub record OutsideShape (end : ℕ) (j : Job) (t : Own) : Type 0 where
  pub in_body : j.at < end
  pub unloaded : Unloaded j.pairs t.entries

pub record InsideShape (end : ℕ) (j : Job) : Type 0 where
  pub in_body : j.at ≤ end
  pub begun : j.begin ≤ end

abbrev pub JobShape : ℕ → Job → Own → Phase → Type 0
JobShape end j t Phase.Idle = Unit {0}
JobShape end j t Phase.Plain = OutsideShape end j t
JobShape end j t (Phase.Read r w s) = OutsideShape end j t
JobShape end j t (Phase.Exchange r s) = j.at < end
JobShape end j t (Phase.Transaction s) = InsideShape end j

-- A STATEMENT IS THE MODEL'S
-- what a statement leaves: the shared memory and its task
pub record Leaves : Type 0 where
  pub memory : W.Memory
  pub task : J.Task

abbrev pub leaves : W.Memory → J.Task → Leaves
leaves m t = record { memory = m; task = t }

abbrev pub turn_leaves : J.Turn → Leaves
turn_leaves v = leaves v.memory v.task

-- the code has left the shared memory m, and the task's job and record; the model has taken the turn v
pub record Refines (program : List BodyCommand) (end : ℕ) (body : List C.BodyCommand) (m : Shared) (c : Noted Job) (v : J.Turn) : Type 0 where
  pub same : turn_leaves v ≡ leaves (memory_of m) (task_of program end body c.next c.task)
  pub shared_sized : SharedSized m
  pub own_sized : OwnSized c.task
  pub shape : JobShape end c.next c.task c.next.phase
