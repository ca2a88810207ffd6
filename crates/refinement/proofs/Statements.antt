-- One statement of a task over the shared memory and its record is the model's, whatever the phase of its job.
use Prim.Native.Nat.{ℕ, ◌<◌, ◌≤◌}
use mathlib.Core.Path.{◌≡◌, refl}
use mathlib.Core.List.{List}
use native.Mathlib.Omega.{arith}
use lib.ListN.{length}
use Rattle.model.specs.Lists.{at}
use Rattle.model.specs.Command as C
use Rattle.model.specs.Machine as M
use Rattle.model.proofs.Fit.Machine.{PhaseFit}
use Rattle.model.proofs.Fit.Ranges.{PhaseRange}
use Rattle.commands.specs.declared.BodyCommand.{BodyCommand}
use Rattle.state.specs.State.{Shared, Own}
use Rattle.state.specs.Held.{memory_of}
use Rattle.exchanges.specs.Places.{Left}
use Rattle.jobs.specs.Jobs.{in_phase}
use Rattle.jobs.specs.declared.Phase.{Phase}
use Rattle.jobs.specs.declared.Job.{Job}
use Rattle.statements.specs.Statements.{begin_tick, other_tick, step_tick, statement}
use Rattle.machine.specs.Flat.{closed}
use Rattle.refinement.proofs.View.{waiting_of, phase_of, commands_of, task_of}
use Rattle.state.specs.Sized.{SharedSized, OwnSized}
use Rattle.refinement.proofs.Shape.{JobShape, Refines}
use Rattle.refinement.proofs.Outside.{exchange_shape, exchange-step, plain-statement, read-statement, swap-statement}
use Rattle.refinement.proofs.Inside.{inside-statement}

module _ (program : List BodyCommand) (size : length program ≡ 512) (end : ℕ) (bound : end ≤ 512) (body : List C.BodyCommand)
    (m : Shared) (t : Own) (p : ℕ) (j : Job) (shared : SharedSized m) (own : OwnSized t)
    (few : (n : ℕ) → n < 4 → at 0 t.counts n < 4294967295) (words blocks : ℕ) (most_words : words ≤ 32) (most_blocks : blocks ≤ 16) where
  -- in phase f
  abbrev done : Phase → Left Job
  done f = statement program m t p (in_phase j f)

  abbrev Goal : Phase → Type 0
  Goal f =
      Refines program end body (done f).memory (closed end (done f).task (done f).next)
      (M.statement p (memory_of m) (task_of program end body (in_phase j f) t) (phase_of program end j t f))

  in-phase : (f : Phase) → PhaseFit words blocks t.copies (commands_of program end j f) (waiting_of j t f) (phase_of program end j t f)
      → PhaseRange (phase_of program end j t f)
      → ((k : ℕ) → at 0 t.copies k < 256) → JobShape end j t f → Goal f
  unfolding M.statement statement begin_tick step_tick other_tick
  in-phase Phase.Idle f r copy w = record { same = refl; shared_sized = shared; own_sized = own; shape = tt }
  in-phase Phase.Plain f r copy w =
      plain-statement program size end bound body m t p j shared own (few 0 (omega arith)) words blocks most_words f.outside w
  in-phase (Phase.Read n c z) f r copy w =
      read-statement program size end bound body m t p j shared own (few 0 (omega arith)) n c z (omega (arith, f.word)) w
  in-phase (Phase.Exchange n z) f r copy w =
      swap-statement program size end bound body m t p j shared own (few 0 (omega arith)) n z w
      (exchange_shape t j z 0 words _ f.exchange (omega arith) r)
      (exchange-step t j z 0 words _ f.exchange)
  in-phase (Phase.Transaction i) f r copy w =
      inside-statement program size end bound body m t p j shared own few words blocks most_blocks copy i f r w

-- ONE STATEMENT
pub statement-tick : (program : List BodyCommand) → length program ≡ 512 → (end : ℕ) → end ≤ 512
    → (body : List C.BodyCommand) (m : Shared) (t : Own) (p : ℕ) (j : Job)
    → SharedSized m → OwnSized t → p < 8 → ((i : ℕ) → i < 4 → at 0 t.counts i < 4294967295) → (words blocks : ℕ) → words ≤ 32 → blocks ≤ 16
    → PhaseFit words blocks t.copies (commands_of program end j j.phase) (waiting_of j t j.phase) (phase_of program end j t j.phase)
    → PhaseRange (phase_of program end j t j.phase) → ((k : ℕ) → at 0 t.copies k < 256) → JobShape end j t j.phase
    → Refines program end body (statement program m t p j).memory (closed end (statement program m t p j).task (statement program m t p j).next)
    (M.statement p (memory_of m) (task_of program end body j t) (phase_of program end j t j.phase))
statement-tick program size end bound body m t p j shared own below few words blocks most_words most_blocks f r copy w =
    in-phase program size end bound body m t p j shared own few words blocks most_words most_blocks j.phase f r copy w
