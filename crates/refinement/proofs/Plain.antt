-- The command at work outside a transaction: LOAD, ADD, READ, PAIR, SWAP, BEGIN.
use Prim.Native.Nat.{ℕ, suc, ◌<◌, ◌≤◌}
use mathlib.Core.Path.{◌≡◌, refl, sym, subst}
use mathlib.Core.Bool.{Bool, true, false}
use mathlib.Core.List.{List, [], ◌∷◌, ◌++◌}
use native.Mathlib.Omega.{arith}
use lib.Dec.{eqb}
use lib.ListN.{length}
use borrow.Author.Tests.{eqb-true}
use Rattle.model.specs.Lists.{at}
use Rattle.model.specs.Command as C
use Rattle.model.specs.Fault.{Body}
use Rattle.model.specs.Word as W
use Rattle.model.specs.Exchange as X
use Rattle.model.specs.Job as J
use Rattle.model.specs.Machine as M
use Rattle.model.specs.Arguments as A
use Rattle.model.proofs.Fit.Body.{OutsideFits, CommandFits}
use Rattle.commands.specs.View.{view_outside, view_body_command}
use Rattle.commands.specs.declared.Outside.{Outside}
use Rattle.commands.specs.declared.Outside.TheVariants as O
use Rattle.commands.specs.declared.BodyCommand.{BodyCommand}
use Rattle.commands.specs.declared.BodyCommand.TheVariants as B
use Rattle.state.specs.State.{Shared, Own}
use Rattle.state.specs.Held.{memory_of}
use Rattle.exchanges.specs.Places.{next_of, Left}
use Rattle.exchanges.specs.Reading.{after_reading}
use Rattle.exchanges.specs.Exchange.{after_start}
use Rattle.exchanges.specs.declared.read.Reading.TheVariants.{Load}
use Rattle.jobs.specs.Jobs.{in_phase, next_line, added, keeping, entered}
use Rattle.jobs.specs.declared.Phase.TheVariants.{Plain}
use Rattle.jobs.specs.declared.Job.{Job}
use Rattle.statements.specs.Statements.{outside_tick, plain_tick}
use Rattle.machine.specs.Flat.{closed, closed_by}
use Rattle.program.specs.Program.{commands_in}
use Rattle.refinement.proofs.View.{pairs_of}
use Rattle.state.specs.Sized.{SharedSized, OwnSized}
use Rattle.refinement.proofs.Shape.{Unloaded, Refines}
use Rattle.refinement.proofs.Sized.{entries_sized, entries-sized}
use Rattle.refinement.proofs.Entered.{entered-sized, entered-pairs, entered_unloaded}
use Rattle.refinement.proofs.Copied.{kept-all, cleared_blocks, keeping-sized, clearing-sized}
use Rattle.refinement.proofs.Lines.{next-line}
use Rattle.refinement.proofs.Reading.{read-tick}
use Rattle.refinement.proofs.ExchangeKept.{status-sized}
use Rattle.refinement.proofs.Done.{done_refines}
use Rattle.refinement.proofs.Answers.{beginning-same, outside, register-done, read-by}

module _ (program : List BodyCommand) (size : length program ≡ 512) (end : ℕ) (bound : end ≤ 512) (body : List C.BodyCommand)
    (m : Shared) (t : Own) (p : ℕ) (j : Job) (shared : SharedSized m) (own : OwnSized t) (few : at 0 t.counts 0 < 4294967295)
    (in_body : j.at < end) (u : Unloaded j.pairs t.entries) where
  abbrev task : J.Task
  task = outside program end body j t J.plain

  abbrev tick : BodyCommand → Left Job
  tick c = plain_tick m t p (in_phase j Plain) c

  abbrev Goal : BodyCommand → Type 0
  Goal c =
      Refines program end body (tick c).memory (closed end (tick c).task (tick c).next)
      (M.plain_tick p (memory_of m) task (view_body_command c ∷ commands_in program (next_line j) end))

  load-command : (r v : ℕ) → Goal (B.Load r v)
  unfolding M.plain_tick plain_tick
  load-command r v = register-done program size end bound body t j J.plain own few in_body m shared r v u

  add_command : (r q : ℕ) → Goal (B.Add r q)
  unfolding M.plain_tick plain_tick added
  add_command r q = register-done program size end bound body t j J.plain own few in_body m shared r _ u

  read-command : (r w : ℕ) → w < 48 → Goal (B.Outside (O.Read r w))
  unfolding M.plain_tick M.outside_tick plain_tick outside_tick
  read-command r w h =
      subst
      (λ (o : W.Read). Refines program end body m (closed end (tick (B.Outside (O.Read r w))).task (tick (B.Outside (O.Read r w))).next)
      (M.beginning (A.read_of w) (M.read_by (memory_of m) task r w o)))
      (sym (read-tick m w (omega (arith, shared.cells)) shared.saves Load))
      (beginning-same
      (read-by program size end bound body t (in_phase j Plain) J.plain own few in_body m shared r w u (after_reading m w Load)))

  swap-command : (r : ℕ) → Goal (B.Outside (O.Swap r))
  unfolding M.plain_tick M.outside_tick M.swap_by X.exchange_tick plain_tick outside_tick after_start
  swap-command r = record { same = rw u; shared_sized = status-sized m shared p 0; own_sized = own; shape = in_body }

  begin-command : Goal (B.Outside O.Begin)
  unfolding M.plain_tick M.outside_tick plain_tick outside_tick
  begin-command =
      let next = next-line j (omega arith) in
      record {
        same = rw (kept-all t own, cleared_blocks (keeping 8 t) (keeping-sized t own 8));
        shared_sized = shared;
        own_sized = clearing-sized (keeping 8 t) (keeping-sized t own 8);
        shape = record { in_body = omega arith; begun = omega arith };
      }

  -- PAIR: one entry more
  pair_command : (w o n : ℕ) → j.pairs < 8 → Goal (B.Outside (O.Pair w o n))
  unfolding M.plain_tick M.outside_tick plain_tick outside_tick
  pair_command w o n room =
      let old : ℕ = at 0 t.registers o in
      let new : ℕ = at 0 t.registers n in
      let more : next_of j.pairs ≡ suc j.pairs = omega arith in
      let t' : Own = entered t j.pairs w old new in
      done_refines program size end bound body j in_body t' (next_of j.pairs)
      (entries-sized own _ (entered-sized t.entries j.pairs w old new (entries_sized own))) _ _ m shared few
      (rw more (entered_unloaded t.entries j.pairs w old new (entries_sized own) room u))
      (pairs_of j.pairs t.entries ++ (X.entry w old new ∷ []))
      (rw more (sym (entered-pairs t.entries j.pairs w old new (entries_sized own) room)))

  -- what the check lets not stand here
  none-command : (b : Bool) → eqb j.at end ≡ b
      → Refines program end body m (closed_by b t (in_phase j Plain)) (J.turn (memory_of m) task J.nothing_done)
  none-command true e = let z : j.at ≡ end = eqb-true _ _ e in absurd (omega arith)
  none-command false e = record { same = refl; shared_sized = shared; own_sized = own; shape = record { in_body = in_body; unloaded = u } }

  module _ (words blocks : ℕ) (b : Body) (most : words ≤ 32) (room : length b.pairs < 8 → j.pairs < 8) where
    outside-command : (c : Outside) → OutsideFits words b (view_outside c) → Goal (B.Outside c)
    outside-command (O.Read r w) f = read-command r w (omega (arith, f.word))
    outside-command (O.Pair w o n) f = pair_command w o n (room f.room)
    outside-command (O.Swap r) f = swap-command r
    outside-command O.Begin f = begin-command

    -- THE COMMAND AT WORK
    pub plain-tick : (c : BodyCommand) → CommandFits words blocks b (view_body_command c) → Goal c
    unfolding M.plain_tick plain_tick
    plain-tick (B.Load r v) f = load-command r v
    plain-tick (B.Add r q) f = add_command r q
    plain-tick (B.Outside c) f = outside-command c f.fits
    plain-tick (B.Inside c) f = none-command (eqb j.at end) refl
