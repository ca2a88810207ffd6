-- One statement of a job outside a transaction: a command taken up, READ and SWAP going on.
use Prim.Native.Nat.{ℕ, ◌<◌, ◌≤◌}
use mathlib.Core.Path.{◌≡◌, sym, ap, ◌∙◌, subst}
use mathlib.Core.List.{List, ◌∷◌}
use native.Mathlib.Omega.{arith}
use lib.ListN.{length}
use Rattle.model.specs.Lists.{at}
use Rattle.model.specs.Command as C
use Rattle.model.specs.Word as W
use Rattle.model.specs.Exchange as X
use Rattle.model.specs.Job as J
use Rattle.model.specs.Machine as M
use Rattle.model.proofs.Fit.Body.{Faultless, command_fits}
use Rattle.model.proofs.Fit.Exchange.{StepFit, ExchangeFit}
use Rattle.model.proofs.Fit.Machine.{OutsideFit, word_of}
use Rattle.model.proofs.Fit.Ranges.{ExchangeRange}
use Rattle.commands.specs.View.{view_body_command}
use Rattle.commands.specs.declared.BodyCommand.{BodyCommand}
use Rattle.state.specs.State.{Shared, Own}
use Rattle.state.specs.Held.{memory_of}
use Rattle.exchanges.specs.Places.{Left}
use Rattle.exchanges.specs.Reading.{after_reading}
use Rattle.exchanges.specs.Exchange.{after_exchange}
use Rattle.exchanges.specs.declared.read.Reading.{Reading}
use Rattle.exchanges.specs.declared.exchange.Step.{Step}
use Rattle.exchanges.specs.declared.exchange.Exchanged.{Exchanged}
use Rattle.jobs.specs.Jobs.{in_phase, next_line, read_by, swap_by}
use Rattle.jobs.specs.declared.Phase.TheVariants as Phase
use Rattle.jobs.specs.declared.Job.{Job}
use Rattle.statements.specs.Statements.{command_in, plain_tick}
use Rattle.machine.specs.Flat.{closed}
use Rattle.program.specs.Program.{commands_in}
use Rattle.refinement.proofs.Tabulate.{length_tabulate}
use Rattle.refinement.proofs.View.{reading_of, entries_of, pairs_of, number_of, step_of, exchange_of}
use Rattle.state.specs.Sized.{SharedSized, OwnSized}
use Rattle.refinement.proofs.Shape.{OutsideShape, Refines}
use Rattle.refinement.proofs.Lines.{next-line, lines_at}
use Rattle.state.proofs.Held.{length-map}
use Rattle.refinement.proofs.Entries.{at-entries, length-entries}
use Rattle.refinement.proofs.Reading.{read-tick}
use Rattle.refinement.proofs.Exchange.{ExchangeShape, exchanged_of, exchange-tick}
use Rattle.refinement.proofs.ExchangeKept.{ExchangeKept, exchange-kept}
use Rattle.refinement.proofs.Answers.{closing, outside, read-by, swap-by}
use Rattle.refinement.proofs.Plain.{plain-tick}

-- AN EXCHANGE whose entries fit
module _ (t : Own) (j : Job) (z : Step) where
  abbrev pub exchange_now : X.Exchange
  exchange_now = exchange_of (entries_of j.pairs t.entries) j.value z

  module _ (low high : ℕ) (ps : List X.Entry) (f : ExchangeFit low high ps exchange_now) where
    k_size : length (entries_of j.pairs t.entries) ≡ j.pairs
    k_size = length-entries j.pairs t

    pub exchange_shape : high ≤ 48 → ExchangeRange exchange_now → ExchangeShape t j.pairs
    exchange_shape top r =
        record {
          pairs = omega (arith, k_size, f.entries.most);
          target = λ e h.
              (let q = ap (λ (y : X.Entry). y.cell) (at-entries j.pairs t e h) in
              omega (arith, q, k_size, f.entries.below e (omega (arith, k_size))));
          new = λ e h. (let q = ap (λ (y : X.Entry). y.new) (at-entries j.pairs t e h) in omega (arith, q, (r.entry e).new));
        }

    pub exchange-step : StepFit j.pairs (number_of z) (step_of j.value z)
    exchange-step = subst (λ (n : ℕ). StepFit n (number_of z) (step_of j.value z)) k_size f.step

module _ (program : List BodyCommand) (size : length program ≡ 512) (end : ℕ) (bound : end ≤ 512) (body : List C.BodyCommand)
    (m : Shared) (t : Own) (p : ℕ) (j : Job) (shared : SharedSized m) (own : OwnSized t) (few : at 0 t.counts 0 < 4294967295) where
  -- the commands from the one at work on
  pub lines_here : j.at < end
      → commands_in program j.at end ≡ view_body_command (command_in program j.at) ∷ commands_in program (next_line j) end
  lines_here h = rw (next-line j (omega arith)) (lines_at program size end bound j.at h)

  pairs-size : length (pairs_of j.pairs t.entries) ≡ j.pairs
  unfolding pairs_of
  pairs-size = length_tabulate j.pairs _

  abbrev plain : Left Job
  plain = plain_tick m t p (in_phase j Phase.Plain) (command_in program j.at)

  -- PLAIN
  pub plain-statement : (words blocks : ℕ) → words ≤ 32 → OutsideFit words blocks (commands_in program j.at end) (pairs_of j.pairs t.entries)
      → OutsideShape end j t
      → Refines program end body plain.memory (closed end plain.task plain.next)
      (M.plain_tick p (memory_of m) (outside program end body j t J.plain) (commands_in program j.at end))
  plain-statement words blocks most o s =
      let here = lines_here s.in_body in
      let first = subst (Faultless o.known) here o.faultless in
      subst
      (λ (l : List C.BodyCommand). Refines program end body plain.memory (closed end plain.task plain.next)
      (M.plain_tick p (memory_of m) (outside program end body j t J.plain) l))
      (sym here)
      (plain-tick program size end bound body m t p j shared own few s.in_body s.unloaded words blocks o.known.body most
      (λ r. let named : length o.known.body.pairs ≡ length (pairs_of j.pairs t.entries) =
      ap length o.waiting ∙ length-map word_of (pairs_of j.pairs t.entries) in
      omega (arith, pairs-size))
      (command_in program j.at) (command_fits o.known words blocks o.opened _ first.faultless))

  -- READ
  pub read-statement : (r w : ℕ) (z : Reading) → w < 48 → OutsideShape end j t
      → Refines program end body m (closing end (read_by t (in_phase j (Phase.Read r w z)) r w (after_reading m w z)))
      (M.read_by (memory_of m) (outside program end body j t (J.reading r w (reading_of z))) r w (W.read_tick (memory_of m) w (reading_of z)))
  read-statement r w z h s =
      subst
      (λ (o : W.Read). Refines program end body m (closing end (read_by t (in_phase j (Phase.Read r w z)) r w (after_reading m w z)))
      (M.read_by (memory_of m) (outside program end body j t (J.reading r w (reading_of z))) r w o))
      (sym (read-tick m w (omega (arith, shared.cells)) shared.saves z))
      (read-by program size end bound body t (in_phase j (Phase.Read r w z)) (J.reading r w (reading_of z)) own few s.in_body m shared r w
      s.unloaded (after_reading m w z))

  -- SWAP
  module _ (r : ℕ) (z : Step) (in_body : j.at < end) where
    abbrev now : X.Exchange
    now = exchange_now t j z

    abbrev Swapped : Shared → Own → Exchanged → X.Exchanged → Type 0
    Swapped n u e o =
        Refines program end body n (closing end (swap_by u (in_phase j (Phase.Exchange r z)) r e))
        (M.swap_by (outside program end body j t (J.exchanging r now)) r now o)

    swapped : (x : Left Exchanged) → ExchangeKept t x
        → Swapped x.memory x.task x.next (exchanged_of (memory_of x.memory) (entries_of j.pairs x.task.entries) j.value x.next)
    swapped x g =
        subst
        (λ (u : Own). Swapped x.memory u x.next (exchanged_of (memory_of x.memory) (entries_of j.pairs u.entries) j.value x.next))
        g.same
        (swap-by program size end bound body t (in_phase j (Phase.Exchange r z)) (J.exchanging r now) own few in_body now r x.memory g.shared _ _
        g.inits g.overlapped x.next)

    abbrev left : Left Exchanged
    left = after_exchange m t p j.pairs j.value z

    pub swap-statement : ExchangeShape t j.pairs → StepFit j.pairs (number_of z) (step_of j.value z)
        → Swapped left.memory left.task left.next (X.exchange_tick p (memory_of m) now (step_of j.value z))
    swap-statement f g =
        subst (λ (o : X.Exchanged). Swapped left.memory left.task left.next o)
        (sym (exchange-tick m t p j.pairs j.value shared own f z g))
        (swapped left (exchange-kept m t p j.pairs j.value shared own z))
