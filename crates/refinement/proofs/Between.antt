-- The command at work inside a transaction: LOAD, ADD, GET, PUT, COMMIT.
use Prim.Native.Nat.{ℕ, ◌<◌, ◌≤◌}
use mathlib.Core.Path.{◌≡◌, refl, sym, ◌∙◌, subst}
use mathlib.Core.List.{List, ◌∷◌}
use native.Mathlib.Omega.{arith}
use lib.ListN.{length}
use Rattle.model.specs.Lists.{at}
use Rattle.model.specs.Command as C
use Rattle.model.specs.Job as J
use Rattle.model.specs.Transaction as T
use Rattle.model.proofs.Lists.{length-replace}
use Rattle.model.proofs.Fit.Elements.{below?}
use Rattle.model.proofs.Fit.Body.{Faultless}
use Rattle.model.proofs.Fit.Pass.{PassFit, not-over}
use Rattle.model.proofs.Fit.TransactionTick.{at-work}
use Rattle.commands.specs.View.{view_access, view_body_command}
use Rattle.commands.specs.declared.Access.{Access}
use Rattle.commands.specs.declared.Inside.TheVariants as I
use Rattle.commands.specs.declared.BodyCommand.{BodyCommand}
use Rattle.commands.specs.declared.BodyCommand.TheVariants as B
use Rattle.state.specs.State.{Shared, Own}
use Rattle.state.specs.Held.{memory_of}
use Rattle.exchanges.specs.Places.{Left}
use Rattle.jobs.specs.Jobs.{in_phase, added}
use Rattle.statements.specs.Statements.{inside_tick, between_tick, command_in}
use Rattle.machine.specs.Flat.{closed}
use Rattle.program.specs.Program.{commands_in}
use Rattle.jobs.specs.declared.Inner.TheVariants.{Between}
use Rattle.jobs.specs.declared.Phase.TheVariants.{Transaction}
use Rattle.jobs.specs.declared.Job.{Job}
use Rattle.refinement.proofs.View.{transaction_of}
use Rattle.state.specs.Sized.{SharedSized, OwnSized}
use Rattle.refinement.proofs.Shape.{Refines}
use Rattle.refinement.proofs.Lines.{lines_none, lines_at}
use Rattle.refinement.proofs.Access.{inside, named-block, AccessFits, goes_on_lem, access-tick}
use Rattle.refinement.proofs.Commit.{PassFits, commit-tick}

-- what the check says of the access at work
pub access_fits : {words blocks : ℕ} {l : List C.BodyCommand} {x : J.Transaction} → blocks ≤ 16 → (c : Access)
    → PassFit words blocks (C.inside (C.access (view_access c)) ∷ l) x → AccessFits c
access_fits most c g = let w = at-work (view_access c) g in record { block = omega (arith, w.block, named-block c); offset = w.offset }

module _ (program : List BodyCommand) (size : length program ≡ 512) (end : ℕ) (bound : end ≤ 512) (body : List C.BodyCommand)
    (m : Shared) (t : Own) (j : Job) (shared : SharedSized m) (own : OwnSized t) (begun : j.begin ≤ end)
    (few : (n : ℕ) → n < 4 → at 0 t.counts n < 4294967295) (f : PassFits t) (words blocks : ℕ) (most : blocks ≤ 16) where
  abbrev here : Job
  here = in_phase j (Transaction Between)

  abbrev z : J.Task
  z = inside program end body j t J.between

  abbrev x : J.Transaction
  x = transaction_of program end j t

  abbrev Goal : Left Job → J.Turn → Type 0
  Goal u v = Refines program end body u.memory (closed end u.task u.next) v

  -- a transaction does not end before COMMIT
  in-body : PassFit words blocks (commands_in program j.at end) x → j.at < end
  in-body g =
      below? j.at end (λ h. h)
      (λ h. absurd (not-over g.inside (subst (Faultless g.known) (lines_none program size end bound j.at h) g.faultless)))

  command-tick : j.at < end → (c : BodyCommand) (l : List C.BodyCommand) → PassFit words blocks (view_body_command c ∷ l) x
      → Goal (between_tick m t here c) (T.command_tick (memory_of m) z x (view_body_command c ∷ l))
  unfolding T.command_tick T.inside_tick between_tick inside_tick added
  command-tick h (B.Load r v) l g =
      goes_on_lem program size end bound body m t j J.between shared own h begun m shared _ (length-replace t.registers r v ∙ own.registers)
  command-tick h (B.Add r q) l g =
      goes_on_lem program size end bound body m t j J.between shared own h begun m shared _ (length-replace t.registers r _ ∙ own.registers)
  command-tick h (B.Outside c) l g =
      record { same = refl; shared_sized = shared; own_sized = own; shape = record { in_body = omega arith; begun = begun } }
  command-tick h (B.Inside (I.Access a)) l g =
      access-tick program size end bound body m t here J.between shared own h begun a (access_fits most a g)
  command-tick h (B.Inside I.Commit) l g = commit-tick program size end bound body t here J.between own h begun few m shared f

  pub between-tick : PassFit words blocks (commands_in program j.at end) x
      → Goal (between_tick m t here (command_in program j.at)) (T.command_tick (memory_of m) z x (commands_in program j.at end))
  between-tick g =
      let h = in-body g in
      let e = lines_at program size end bound j.at h in
      subst
      (λ (l : List C.BodyCommand). Goal (between_tick m t here (command_in program j.at)) (T.command_tick (memory_of m) z x l))
      (sym e)
      (command-tick h (command_in program j.at) _ (subst (λ (l : List C.BodyCommand). PassFit words blocks l x) e g))
