-- What a tick of READ and of SWAP makes of the job.
use Prim.Native.Nat.{ℕ, ◌<◌, ◌≤◌}
use mathlib.Core.Path.{◌≡◌, refl, sym}
use mathlib.Core.List.{List, []}
use lib.ListN.{length}
use Rattle.model.specs.Lists.{at, replace}
use Rattle.model.specs.Command as C
use Rattle.model.specs.Exchange as X
use Rattle.model.specs.Job as J
use Rattle.model.specs.Machine as M
use Rattle.model.specs.Arguments.{Arguments}
use Rattle.commands.specs.declared.BodyCommand.{BodyCommand}
use Rattle.state.specs.State.{Shared, Own, set_register}
use Rattle.state.specs.Held.{memory_of}
use Rattle.exchanges.specs.Places.{Noted}
use Rattle.exchanges.specs.declared.read.Read.{Read}
use Rattle.exchanges.specs.declared.read.Read.TheVariants.{Reads, Gives}
use Rattle.exchanges.specs.declared.exchange.Exchanged.{Exchanged}
use Rattle.exchanges.specs.declared.exchange.Exchanged.TheVariants.{Goes, Finds, Ends}
use Rattle.jobs.specs.Jobs.{after_done, read_by, swap_by}
use Rattle.jobs.specs.declared.Job.{Job}
use Rattle.machine.specs.Flat.{closed}
use Rattle.program.specs.Program.{commands_in}
use Rattle.refinement.proofs.View.{entries_of, pairs_of, read_of, counts_of}
use Rattle.state.specs.Sized.{SharedSized, OwnSized}
use Rattle.refinement.proofs.Shape.{Unloaded, Refines}
use Rattle.refinement.proofs.Sized.{register_sized}
use Rattle.refinement.proofs.Entered.{no_pairs, none_unloaded}
use Rattle.refinement.proofs.Exchange.{exchanged_of}
use Rattle.refinement.proofs.ExchangeKept.{loaded_in, loading, loading-sized}
use Rattle.refinement.proofs.Done.{done_refines}

-- a job and its record once the command may be done
abbrev pub closing : ℕ → Noted Job → Noted Job
closing end c = closed end c.task c.next

-- the same turn as the first of an operation
pub beginning-same : {program : List BodyCommand} {end : ℕ} {body : List C.BodyCommand} {m : Shared} {c : Noted Job} {v : J.Turn} {g : Arguments}
    → Refines program end body m c v → Refines program end body m c (M.beginning g v)
beginning-same k = record { same = k.same; shared_sized = k.shared_sized; own_sized = k.own_sized; shape = k.shape }

-- the task at command j, in any phase outside a transaction
abbrev pub outside : List BodyCommand → ℕ → List C.BodyCommand → Job → Own → J.Phase → J.Task
outside program end body j t f =
    J.task body t.copies (counts_of t) (J.job f (commands_in program j.at end) t.registers (pairs_of j.pairs t.entries))

module _ (program : List BodyCommand) (size : length program ≡ 512) (end : ℕ) (bound : end ≤ 512) (body : List C.BodyCommand)
    (t : Own) (j : Job) (f : J.Phase) (own : OwnSized t) (few : at 0 t.counts 0 < 4294967295) (in_body : j.at < end) where
  -- a register is written and the command is done
  pub register-done : {d : J.Deed} (m : Shared) → SharedSized m → (r v : ℕ) → Unloaded j.pairs t.entries
      → Refines program end body m (closed end (set_register t r v) (after_done j j.pairs))
      (J.turn (memory_of m) (J.done (outside program end body j t f) (replace t.registers r v) (pairs_of j.pairs t.entries) t.copies) d)
  register-done m shared r v u =
      done_refines program size end bound body j in_body (set_register t r v) j.pairs (register_sized own r v) _ _ m shared few u _ refl

  pub read-by : (m : Shared) → SharedSized m → (r w : ℕ) → Unloaded j.pairs t.entries → (o : Read)
      → Refines program end body m (closing end (read_by t j r w o)) (M.read_by (memory_of m) (outside program end body j t f) r w (read_of o))
  unfolding M.read_by read_by
  read-by m shared r w u (Reads z) =
      record { same = refl; shared_sized = shared; own_sized = own; shape = record { in_body = in_body; unloaded = u } }
  read-by m shared r w u (Gives v) = register-done m shared r v u

  -- a tick of the exchange has left this memory, with these words loaded
  pub swap-by : (y : X.Exchange) (r : ℕ) (m : Shared) → SharedSized m → (l o : List ℕ) → length l ≡ 8 → length o ≡ 8 → (z : Exchanged)
      → Refines program end body m (closing end (swap_by (loading t l o) j r z))
      (M.swap_by (outside program end body j t f) r y (exchanged_of (memory_of m) (entries_of j.pairs (loading t l o).entries) j.value z))
  unfolding M.swap_by swap_by pairs_of
  swap-by y r m shared l o hl ho (Goes z) =
      record { same = refl; shared_sized = shared; own_sized = loading-sized own l o hl ho; shape = in_body }
  swap-by y r m shared l o hl ho (Finds z) =
      record { same = refl; shared_sized = shared; own_sized = loading-sized own l o hl ho; shape = in_body }
  swap-by y r m shared l o hl ho (Ends yes?) =
      done_refines program size end bound body j in_body (set_register (loading t l o) r (M.answer yes?)) 0
      (register_sized (loading-sized own l o hl ho) r (M.answer yes?)) _ _ m shared few (none_unloaded _) []
      (sym (no_pairs (loaded_in t.entries l o)))
