-- A count of a task rises by one.
use Prim.Native.Nat.{ℕ, suc, ◌+◌, ◌%◌, ◌<◌}
use mathlib.Core.Path.{◌≡◌, refl, ap, ◌∙◌}
use mathlib.Core.Bool.{true, false}
use mathlib.Core.List.{List}
use native.Mathlib.Omega.{arith}
use lib.Dec.{eqb, ltb}
use lib.ListN.{length}
use borrow.Author.Tests.{ltb-true, eqb-false}
use Rattle.model.specs.Lists.{at}
use Rattle.model.specs.Command as C
use Rattle.model.specs.Job as J
use Rattle.model.proofs.Lists.{replace-same, replace-other}
use Rattle.commands.specs.declared.BodyCommand.{BodyCommand}
use Rattle.state.specs.State.{Own}
use Rattle.jobs.specs.Jobs.{counted}
use Rattle.jobs.specs.Jobs as count
use Rattle.jobs.specs.declared.Inner.{Inner}
use Rattle.jobs.specs.declared.Phase.{Phase}
use Rattle.jobs.specs.declared.Job.{Job}
use Rattle.refinement.proofs.View.{counts_of, waiting_of, inner_of, transaction_of, phase_of, task_of}
use Rattle.refinement.proofs.Shape.{JobShape}

-- its number in the record
abbrev pub count_number : J.Count → ℕ
count_number J.finished = count.finished
count_number J.spent = count.spent
count_number J.lost = count.lost
count_number J.ticks = count.ticks
count_number J.dropped = count.dropped

-- IN THE RECORD
module _ (t : Own) (size : length t.counts ≡ 8) where
  same : (n : ℕ) → ltb n 8 ≡ true → at 0 t.counts n < 4294967295 → at 0 (counted t n).counts n ≡ suc (at 0 t.counts n)
  unfolding counted
  same n eight few =
      let once : (at 0 t.counts n + 1) % 4294967296 ≡ suc (at 0 t.counts n) = omega arith in
      replace-same 0 t.counts n _ (omega (arith, ltb-true n 8 eight)) ∙ once

  other : (n m : ℕ) → eqb m n ≡ false → at 0 (counted t n).counts m ≡ at 0 t.counts m
  unfolding counted
  other n m e = replace-other 0 t.counts n m _ (eqb-false m n e)

  pub counted-counts : (c : J.Count) → at 0 t.counts (count_number c) < 4294967295 → counts_of (counted t (count_number c)) ≡ J.raised c (counts_of t)
  counted-counts J.finished few = rw (same 0 refl few, other 0 1 refl, other 0 2 refl, other 0 3 refl, other 0 4 refl)
  counted-counts J.spent few = rw (other 1 0 refl, same 1 refl few, other 1 2 refl, other 1 3 refl, other 1 4 refl)
  counted-counts J.lost few = rw (other 2 0 refl, other 2 1 refl, same 2 refl few, other 2 3 refl, other 2 4 refl)
  counted-counts J.ticks few = rw (other 3 0 refl, other 3 1 refl, other 3 2 refl, same 3 refl few, other 3 4 refl)
  counted-counts J.dropped few = rw (other 4 0 refl, other 4 1 refl, other 4 2 refl, other 4 3 refl, same 4 refl few)

-- IT DOES NOT SHOW in a job's shape
module _ (t : Own) (i : ℕ) where
  pub shape_counted : (end : ℕ) (j : Job) (f : Phase) → JobShape end j t f → JobShape end j (counted t i) f
  unfolding counted
  shape_counted end j Phase.Idle h = h
  shape_counted end j Phase.Plain h = record { in_body = h.in_body; unloaded = h.unloaded }
  shape_counted end j (Phase.Read r w s) h = record { in_body = h.in_body; unloaded = h.unloaded }
  shape_counted end j (Phase.Exchange r s) h = h
  shape_counted end j (Phase.Transaction s) h = h

  -- nor in its phase and waiting PAIRs
  phase-counted : (program : List BodyCommand) (end : ℕ) (j : Job) (f : Phase) → phase_of program end j (counted t i) f ≡ phase_of program end j t f
  unfolding counted
  phase-counted program end j Phase.Idle = refl
  phase-counted program end j Phase.Plain = refl
  phase-counted program end j (Phase.Read r w s) = refl
  phase-counted program end j (Phase.Exchange r s) = refl
  phase-counted program end j (Phase.Transaction s) = ap (J.transacting (transaction_of program end j t)) (inner s)
    where
      inner : (s : Inner) → inner_of j (counted t i) s ≡ inner_of j t s
      inner Inner.Between = refl
      inner (Inner.First a z) = refl
      inner (Inner.Copying a k) = refl
      inner (Inner.Again a v z) = refl
      inner (Inner.Committing z) = refl

  waiting-counted : (j : Job) (f : Phase) → waiting_of j (counted t i) f ≡ waiting_of j t f
  unfolding counted
  waiting-counted j Phase.Idle = refl
  waiting-counted j Phase.Plain = refl
  waiting-counted j (Phase.Read r w s) = refl
  waiting-counted j (Phase.Exchange r s) = refl
  waiting-counted j (Phase.Transaction s) = refl

-- IN THE TASK
pub counted-task : (c : J.Count) (program : List BodyCommand) (end : ℕ) (body : List C.BodyCommand) (j : Job) (t : Own) → length t.counts ≡ 8
    → at 0 t.counts (count_number c) < 4294967295 → task_of program end body j (counted t (count_number c)) ≡ J.counting c (task_of program end body j t)
unfolding counted
counted-task c program end body j t size few =
    rw (phase-counted t (count_number c) program end j j.phase, waiting-counted t (count_number c) j j.phase, counted-counts t size c few)
