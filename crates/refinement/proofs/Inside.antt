-- One statement of a job in a transaction: a command taken up, GET, PUT and COMMIT going on.
use Prim.Native.Nat.{ℕ, suc, ◌+◌, ◌<◌, ◌≤◌}
use mathlib.Core.Path.{◌≡◌, sym, ap, ◌∙◌, subst}
use mathlib.Core.Bool.{true, false≢true}
use mathlib.Core.List.{List, []}
use native.Mathlib.Omega.{arith}
use lib.ListN.{length}
use Rattle.model.specs.Lists.{at}
use Rattle.model.specs.Command as C
use Rattle.model.specs.Word as W
use Rattle.model.specs.Exchange as X
use Rattle.model.specs.Job as J
use Rattle.model.specs.Transaction as T
use Rattle.model.proofs.Fit.Exchange.{StepFit}
use Rattle.model.proofs.Fit.Transaction.{touched?, put?, AgainFit, TransactionFit}
use Rattle.model.proofs.Fit.Pass.{pass_of}
use Rattle.model.proofs.Fit.Ranges.{TouchedRange, TransactionRange}
use Rattle.commands.specs.View.{view_access}
use Rattle.commands.specs.declared.Access.{Access}
use Rattle.commands.specs.declared.Access.TheVariants.{Get, Put}
use Rattle.commands.specs.declared.BodyCommand.{BodyCommand}
use Rattle.state.specs.State.{Shared, Own}
use Rattle.state.specs.Held.{memory_of, touched_in}
use Rattle.exchanges.specs.Places.{Left}
use Rattle.exchanges.specs.Reading.{after_reading}
use Rattle.exchanges.specs.Exchange.{after_exchange}
use Rattle.exchanges.specs.declared.read.Reading.{Reading}
use Rattle.exchanges.specs.declared.exchange.Step.{Step}
use Rattle.exchanges.specs.declared.exchange.Exchanged.{Exchanged}
use Rattle.jobs.specs.Jobs.{in_phase}
use Rattle.jobs.specs.declared.Inner.{Inner}
use Rattle.jobs.specs.declared.Inner.TheVariants.{Between, First, Copying, Again, Committing}
use Rattle.jobs.specs.declared.Phase.TheVariants.{Transaction}
use Rattle.jobs.specs.declared.Job.{Job}
use Rattle.transactions.specs.Blocks.{bank_of, named_block, slot_at, remembered_at}
use Rattle.transactions.specs.Commits.{committed_by}
use Rattle.statements.specs.Statements.{begin_tick, step_tick, transact_tick, transaction_tick, statement}
use Rattle.machine.specs.Flat.{closed}
use Rattle.program.specs.Program.{commands_in}
use Rattle.refinement.proofs.View.{reading_of, read_of, entries_of, number_of, step_of, inner_of, transaction_of}
use Rattle.state.specs.Sized.{SharedSized, OwnSized}
use Rattle.refinement.proofs.Shape.{InsideShape, Refines}
use Rattle.refinement.proofs.Lines.{lines-before}
use Rattle.refinement.proofs.Blocks.{at-blocks}
use Rattle.refinement.proofs.Reading.{read-tick}
use Rattle.refinement.proofs.Exchange.{ExchangeShape, exchanged_of, exchange-tick}
use Rattle.refinement.proofs.ExchangeKept.{ExchangeKept, exchange-kept}
use Rattle.refinement.proofs.Answers.{closing}
use Rattle.refinement.proofs.Outside.{exchange_now, exchange_shape, exchange-step}
use Rattle.refinement.proofs.Access.{inside, named-block, first_read_lem, copy-tick, again-read}
use Rattle.refinement.proofs.Commit.{PassFits, committed-by}
use Rattle.refinement.proofs.Between.{between-tick}

module _ (program : List BodyCommand) (size : length program ≡ 512) (end : ℕ) (bound : end ≤ 512) (body : List C.BodyCommand)
    (m : Shared) (t : Own) (p : ℕ) (j : Job) (shared : SharedSized m) (own : OwnSized t)
    (few : (n : ℕ) → n < 4 → at 0 t.counts n < 4294967295) (words blocks : ℕ) (most : blocks ≤ 16)
    (copy : (k : ℕ) → at 0 t.copies k < 256) where
  abbrev x : J.Transaction
  x = transaction_of program end j t

  abbrev commands : List C.BodyCommand
  commands = commands_in program j.at end

  -- WHAT THE MODEL KNOWS OF IT
  module _ (i : J.Inner) (f : TransactionFit words blocks t.copies commands [] x i) where
    pass_fits : TransactionRange x i → PassFits t
    pass_fits r = record { value = λ b k h i e. subst TouchedRange (put_block b k h i e) (r.block b); copy = copy; most = f.most }
      where
        put_block : (b k : ℕ) → b < 16 → touched_in t.blocks.touched b ≡ true → slot_at t b ≡ suc k
            → T.touched_of x b ≡ J.copied (remembered_at t b) k
        put_block b k h i e = at-blocks t.blocks b h ∙ rw (i, e)

  bank-read : (c : Access) (z : Reading) → named_block c < 16
      → W.read_tick (memory_of m) (T.bank (T.block_of (view_access c))) (reading_of z) ≡ read_of (after_reading m (bank_of (named_block c)) z)
  bank-read c z h =
      ap (λ (b : ℕ). W.read_tick (memory_of m) (T.bank b) (reading_of z)) (named-block c)
      ∙ read-tick m (bank_of (named_block c)) (omega (arith, shared.cells)) shared.saves z

  block-below : (c : Access) → T.block_of (view_access c) < blocks → named_block c < 16
  block-below c h = omega (arith, named-block c)

  again-touched : (c : Access) → AgainFit (view_access c) x → touched? (T.touched_of x (named_block c)) ≡ true
  again-touched (Get r b o) g = g
  again-touched (Put b o r) g = ap touched? g.read

  again-room : (c : Access) → AgainFit (view_access c) x → put? (view_access c) ≡ true → j.used < 4
  again-room (Get r b o) g e = absurd (false≢true e)
  again-room (Put b o r) g e = g.left

  -- THE EXCHANGE OF COMMIT
  module _ (z : Step) (in_body : j.at < end) (begun : j.begin ≤ end) where
    abbrev now : X.Exchange
    now = exchange_now t j z

    abbrev Committed : Shared → Own → Exchanged → X.Exchanged → Type 0
    Committed n u e o =
        Refines program end body n (closing end (committed_by u (in_phase j (Transaction (Committing z))) e))
        (T.committing_by (inside program end body j t (J.committing now)) x now o)

    committed : (y : Left Exchanged) → ExchangeKept t y
        → Committed y.memory y.task y.next
        (exchanged_of (memory_of y.memory) (entries_of j.pairs y.task.entries) j.value y.next)
    committed y g =
        subst
        (λ (u : Own). Committed y.memory u y.next (exchanged_of (memory_of y.memory) (entries_of j.pairs u.entries) j.value y.next))
        g.same
        (committed-by program size end bound body t (in_phase j (Transaction (Committing z))) (J.committing now) own in_body begun few now
        y.memory _ _ g.shared g.inits g.overlapped y.next)

    abbrev left : Left Exchanged
    left = after_exchange m t p j.pairs j.value z

    commit-statement : ExchangeShape t j.pairs → StepFit j.pairs (number_of z) (step_of j.value z)
        → Committed left.memory left.task left.next (X.exchange_tick p (memory_of m) now (step_of j.value z))
    commit-statement f g =
        subst (λ (o : X.Exchanged). Committed left.memory left.task left.next o)
        (sym (exchange-tick m t p j.pairs j.value shared own f z g))
        (committed left (exchange-kept m t p j.pairs j.value shared own z))

  -- ANY INNER STEP
  abbrev done : Inner → Left Job
  done i = statement program m t p (in_phase j (Transaction i))

  abbrev Goal : Inner → J.Turn → Type 0
  Goal i v = Refines program end body (done i).memory (closed end (done i).task (done i).next) v

  pub inside-statement : (i : Inner) → TransactionFit words blocks t.copies commands [] x (inner_of j t i) → TransactionRange x (inner_of j t i)
      → InsideShape end j
      → Goal i (T.transaction_tick p (memory_of m) (inside program end body j t (inner_of (in_phase j (Transaction i)) t i)) x (inner_of j t i))
  unfolding T.transaction_tick statement begin_tick step_tick transaction_tick transact_tick
  inside-statement Between f r w =
      between-tick program size end bound body m t j shared own w.begun few (pass_fits J.between f r) words blocks most (pass_of f)
  inside-statement (First c z) f r w =
      let h = block-below c f.inner.at_work.block in
      let in_body = lines-before program size end bound j.at f.inner.at_work.commands in
      subst (λ (o : W.Read). Goal (First c z) (T.first_read (memory_of m) (inside program end body j t (inner_of j t (First c z))) x (view_access c) o))
      (sym (bank-read c z h))
      (first_read_lem program size end bound body m t (in_phase j (Transaction (First c z))) (inner_of j t (First c z)) shared own in_body w.begun c h
      (after_reading m (bank_of (named_block c)) z))
  inside-statement (Copying c n) f r w =
      let g = f.inner in
      let in_body = lines-before program size end bound j.at g.at_work.commands in
      copy-tick program size end bound body m t (in_phase j (Transaction (Copying c n))) (inner_of j t (Copying c n)) shared own in_body w.begun c
      (block-below c g.at_work.block) (rw (named-block c) at (ap touched? g.first.read)) n g.most
  inside-statement (Again c v z) f r w =
      let g = f.inner in
      let h = block-below c g.at_work.block in
      let in_body = lines-before program size end bound j.at g.at_work.commands in
      subst
      (λ (o : W.Read). Goal (Again c v z)
      (T.again_read (memory_of m) (inside program end body j t (inner_of j t (Again c v z))) x (view_access c) v o))
      (sym (bank-read c z h))
      (again-read program size end bound body m t (in_phase j (Transaction (Again c v z))) (inner_of j t (Again c v z)) shared own in_body w.begun c
      (record { block = h; offset = g.at_work.offset }) (again-touched c g.again) (again-room c g.again) (few 2 (omega arith)) v
      (after_reading m (bank_of (named_block c)) z))
  inside-statement (Committing z) f r w =
      let g = f.inner in
      commit-statement z (lines-before program size end bound j.at g.commands) w.begun
      (exchange_shape t j z 32 (32 + blocks) _ g.exchange (omega arith) r.inner)
      (exchange-step t j z 32 (32 + blocks) _ g.exchange)
