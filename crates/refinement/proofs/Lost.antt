-- An attempt is lost: the transaction starts over, and the count of lost attempts rises.
use Prim.Native.Nat.{ℕ, ◌<◌, ◌≤◌}
use mathlib.Core.List.{List}
use Rattle.model.specs.Lists.{at}
use Rattle.model.specs.Command as C
use Rattle.model.specs.Job as J
use Rattle.model.specs.Transaction as T
use Rattle.commands.specs.declared.BodyCommand.{BodyCommand}
use Rattle.state.specs.State.{Shared, Own}
use Rattle.state.specs.Held.{memory_of}
use Rattle.state.specs.Sized.{SharedSized, OwnSized}
use Rattle.jobs.specs.Jobs.{lost, counted}
use Rattle.jobs.specs.declared.Job.{Job}
use Rattle.transactions.specs.Accesses.{loses_attempt}
use Rattle.machine.specs.Flat.{closed}
use Rattle.refinement.proofs.View.{counts_of, transaction_of}
use Rattle.refinement.proofs.Shape.{Refines}
use Rattle.refinement.proofs.Sized.{counted-sized}
use Rattle.refinement.proofs.Copied.{restored_all, cleared_blocks, restoring-sized, clearing-sized}
use Rattle.refinement.proofs.Counted.{counted-counts}

-- whatever the job w was doing
pub lost_refines : (program : List BodyCommand) (end : ℕ) (body : List C.BodyCommand) (m : Shared) (t : Own) (j : Job) (w : J.Job)
    → SharedSized m → OwnSized t → j.begin ≤ end → at 0 t.counts lost < 4294967295
    → Refines program end body m (closed end (loses_attempt t j).task (loses_attempt t j).next)
    (J.loses_attempt (memory_of m) (T.restarted (J.task body t.copies (counts_of t) w) (transaction_of program end j t)))
unfolding loses_attempt counted
lost_refines program end body m t j w shared own begun few =
    let sized = counted-sized own lost in
    record {
      same = rw (
        restored_all (counted t lost) sized,
        cleared_blocks (counted t lost) sized,
        counted-counts t own.counts J.lost few,
      );
      shared_sized = shared;
      own_sized = clearing-sized _ (restoring-sized _ sized 8);
      shape = record { in_body = begun; begun = begun };
    }
