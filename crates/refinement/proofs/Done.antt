-- The end of a command: the job goes on with the next line, or is finished and counted.
use Prim.Native.Nat.{ℕ, suc, ◌<◌, ◌≤◌}
use mathlib.Core.Path.{◌≡◌, refl, sym, ap, ◌∙◌}
use mathlib.Core.Logic.{◌≢◌}
use mathlib.Core.Bool.{Bool, true, false}
use mathlib.Core.List.{List}
use native.Mathlib.Omega.{arith}
use lib.Dec.{eqb}
use lib.ListN.{length}
use borrow.Author.Tests.{eqb-true, eqb-false}
use Rattle.model.specs.Lists.{at}
use Rattle.model.specs.Command as C
use Rattle.model.specs.Exchange as X
use Rattle.model.specs.Job as J
use Rattle.commands.specs.declared.BodyCommand.{BodyCommand}
use Rattle.state.specs.State.{Shared, Own}
use Rattle.state.specs.Held.{memory_of}
use Rattle.exchanges.specs.Places.{Noted}
use Rattle.jobs.specs.Jobs.{next_line, finished, counted, after_done}
use Rattle.jobs.specs.declared.Job.{Job}
use Rattle.machine.specs.Flat.{closed, closed_by}
use Rattle.program.specs.Program.{commands_in}
use Rattle.refinement.proofs.View.{pairs_of, counts_of, task_of}
use Rattle.state.specs.Sized.{SharedSized, OwnSized}
use Rattle.refinement.proofs.Shape.{Unloaded, JobShape, leaves, Refines}
use Rattle.refinement.proofs.Lines.{next-line, lines_none, lines_more, lines_next}
use Rattle.refinement.proofs.Sized.{counted-sized}
use Rattle.refinement.proofs.Counted.{counted-counts}

module _ (program : List BodyCommand) (size : length program ≡ 512) (end : ℕ) (bound : end ≤ 512) (body : List C.BodyCommand)
    (j : Job) (in_body : j.at < end) (t : Own) (pairs : ℕ) (sized : OwnSized t) where
  -- by: the next line is the end
  abbrev by : Bool → Noted Job
  by b = closed_by b t (after_done j pairs)

  at_next : next_line j ≡ suc j.at
  at_next = next-line j (omega arith)

  module _ (few : at 0 t.counts 0 < 4294967295) (cs : List ℕ) (w : J.Job) where
    -- the task once its command is done, with those commands left
    abbrev left : List C.BodyCommand → J.Task
    left l = J.done_by l (J.task body cs (counts_of t) w) t.registers (pairs_of pairs t.entries) t.copies

    abbrev Same : Bool → Type 0
    Same b = left (commands_in program (next_line j) end) ≡ task_of program end body (by b).next (by b).task

    over : next_line j ≡ end → Same true
    unfolding J.done_by counted
    over e =
        rw (lines_none program size end bound (next_line j) (omega arith), counted-counts t sized.counts J.finished few)

    on : next_line j < end → Same false
    unfolding J.done_by
    on h = rw (lines_more program size end bound (next_line j) h)

    same_by : (b : Bool) → eqb (next_line j) end ≡ b → Same b
    same_by true e = over (eqb-true _ _ e)
    same_by false e = let d : next_line j ≢ end = eqb-false _ _ e in on (omega (arith, at_next))

    pub done-same : left (J.rest (commands_in program j.at end))
        ≡ task_of program end body (closed end t (after_done j pairs)).next (closed end t (after_done j pairs)).task
    done-same = ap left (sym (lines_next program size end bound j (omega arith))) ∙ same_by (eqb (next_line j) end) refl

  sized-by : (b : Bool) → OwnSized (by b).task
  sized-by true = counted-sized sized finished
  sized-by false = sized

  pub done-sized : OwnSized (closed end t (after_done j pairs)).task
  done-sized = sized-by (eqb (next_line j) end)

  shape_by : Unloaded pairs t.entries → (b : Bool) → eqb (next_line j) end ≡ b → JobShape end (by b).next (by b).task (by b).next.phase
  shape_by u true e = tt
  shape_by u false e = let d : next_line j ≢ end = eqb-false _ _ e in record { in_body = omega (arith, at_next); unloaded = u }

  pub done_shape : Unloaded pairs t.entries
      → JobShape end (closed end t (after_done j pairs)).next (closed end t (after_done j pairs)).task (closed end t (after_done j pairs)).next.phase
  done_shape u = shape_by u (eqb (next_line j) end) refl

  -- a turn whose command is done, from the record as the command left it, with those PAIRs waiting
  pub done_refines : {d : J.Deed} (cs : List ℕ) (w : J.Job) (m : Shared) → SharedSized m → at 0 t.counts 0 < 4294967295
      → Unloaded pairs t.entries
      → (ps : List X.Entry) → ps ≡ pairs_of pairs t.entries
      → Refines program end body m (closed end t (after_done j pairs))
      (J.turn (memory_of m) (J.done_by (J.rest (commands_in program j.at end)) (J.task body cs (counts_of t) w) t.registers ps t.copies) d)
  done_refines cs w m shared few u ps e =
      record {
        same =
            rw e (ap (leaves (memory_of m)) (done-same few cs w));
        shared_sized = shared;
        own_sized = done-sized;
        shape = done_shape u;
      }
