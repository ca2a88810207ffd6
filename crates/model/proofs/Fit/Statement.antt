-- A statement keeps memory and task well formed.
use Prim.Native.Nat.{ℕ, ◌≤◌}
use mathlib.Core.Path.{◌≡◌, refl, sym, ◌∙◌, ap, subst}
use mathlib.Core.Bool.{true, true≢false}
use mathlib.Core.List.{List, [], ◌∷◌}
use native.Mathlib.Omega.{arith}
use lib.ListN.{length}
use Rattle.model.specs.Lists.{at}
use Rattle.model.specs.Command.{Outside, READ, PAIR, SWAP, BEGIN, BodyCommand, LOAD, ADD, outside, inside}
use Rattle.model.specs.Fault.{Body}
use Rattle.model.specs.Sheet.{after, in_body, transaction, after_body, after_outside}
use Rattle.model.specs.Word.{Memory, loading, read_tick}
use Rattle.model.specs.Exchange.{Entry, exchange_of, start, exchange_tick}
use Rattle.model.specs.Job.{Phase, idle, plain, reading, exchanging, transacting, Task, rest}
use Rattle.model.specs.Transaction.{loaded, added}
use Rattle.model.specs.Machine.{plain_tick, statement, outside_tick, recorded}
use Rattle.model.proofs.Lists.{length-replace}
use Rattle.model.proofs.Fit.Memory.{MemoryFit}
use Rattle.model.proofs.Fit.Exchange.{ExchangeFit, exchange-start, exchange_fit}
use Rattle.model.proofs.Fit.Transaction.{BegunFit}
use Rattle.model.proofs.Fit.Machine.{OutsideFit, PhaseFit}
use Rattle.model.proofs.Fit.Outside.{open_next, first_fits, after-load, after_add, after_pair}
use Rattle.model.proofs.Fit.Outside.{some_pairs, read_fit, swap_fit, TurnFit, first-turn_fit, done_fit}
use Rattle.model.proofs.Fit.Pass.{pass_start}
use Rattle.model.proofs.Fit.TransactionTick.{within_fit, transaction-tick_fit}

-- the commands after BEGIN
begun_fit : {words blocks : ℕ} {l : List BodyCommand} {ps : List Entry} → OutsideFit words blocks (outside BEGIN ∷ l) ps → BegunFit words blocks l
unfolding after after_body after_outside
begun_fit o =
    let b : Body = transaction true [] [] o.known.body in
    record {
      known = in_body o.known b;
      inside = record { opened = open_next b o.opened; inside = refl; pairs = (first_fits o).fits; touched = omega arith; puts = omega arith };
      nothing = refl;
      no_puts = refl;
      faultless = o.faultless.others;
    }

module _ {words blocks : ℕ} (most : blocks ≤ 16) {m : Memory} (g : MemoryFit m) (t : Task) (hr : length t.job.registers ≡ 8)
    (hc : length t.copies ≡ 4) where
  -- a command that stands only in a transaction
  misplaced : {P : Type 0} {l : List BodyCommand} {ps : List Entry} (o : OutsideFit words blocks l ps) → o.known.body.inside ≡ true → P
  misplaced o e = absurd (true≢false (sym e ∙ o.outside))

  -- the facts of the job's commands, the first of them being known
  at-commands : {l : List BodyCommand} → t.job.commands ≡ l → OutsideFit words blocks l t.job.pairs
      → OutsideFit words blocks t.job.commands t.job.pairs
  at-commands e o = subst (λ (z : List BodyCommand). OutsideFit words blocks z t.job.pairs) (sym e) o

  outside_fit : (p : ℕ) (c : Outside) (l : List BodyCommand) → t.job.commands ≡ outside c ∷ l
      → OutsideFit words blocks (outside c ∷ l) t.job.pairs
      → TurnFit words blocks t (outside_tick p m t l c)
  unfolding outside_tick
  outside_fit p (READ r w) l e o =
      let f = (first_fits o).fits in
      first-turn_fit (read_fit g t hr hc r w
      (record { others = l; commands = e; register = f.register; word = f.word; outside = at-commands e o })
      (read_tick m w loading))
  outside_fit p (PAIR w old new) l e o =
      let a : ℕ = at 0 t.job.registers old in
      let b : ℕ = at 0 t.job.registers new in
      done_fit t l t.job.registers (recorded t w old new) t.copies (ap rest e) g hr hc (after_pair a b o)
  outside_fit p (SWAP r) l e o =
      let f = (first_fits o).fits in
      let begins : ExchangeFit 0 words t.job.pairs (exchange_of t.job.pairs) =
      exchange-start (some_pairs t.job.pairs o.known.body o.waiting f.some) o.pairs in
      first-turn_fit (swap_fit t hr hc r
      (record { others = l; commands = e; register = f.register; outside = at-commands e o })
      (exchange_of t.job.pairs)
      (exchange_tick p m (exchange_of t.job.pairs) start)
      (exchange_fit p g begins o.pairs))
  outside_fit p BEGIN l e o = within_fit t hr hc g hr (pass_start (begun_fit o) hr) tt

  plain_fit : (p : ℕ) (c : BodyCommand) (l : List BodyCommand) → t.job.commands ≡ c ∷ l → OutsideFit words blocks (c ∷ l) t.job.pairs
      → TurnFit words blocks t (plain_tick p m t (c ∷ l))
  unfolding plain_tick
  plain_fit p (LOAD r v) l e o =
      done_fit t l (loaded t.job.registers r v) t.job.pairs t.copies (ap rest e) g (length-replace t.job.registers r v ∙ hr) hc
      (after-load o)
  plain_fit p (ADD r q) l e o =
      done_fit t l (added t.job.registers r q) t.job.pairs t.copies (ap rest e) g (length-replace t.job.registers r _ ∙ hr) hc
      (after_add o)
  plain_fit p (outside c) l e o = outside_fit p c l e o
  plain_fit p (inside c) l e o = misplaced o (first_fits o).place

  phase-statement_fit : (p : ℕ) (f : Phase) → t.job.phase ≡ f → PhaseFit words blocks t.copies t.job.commands t.job.pairs f
      → TurnFit words blocks t (statement p m t f)
  unfolding statement
  phase-statement_fit p idle e h = record {
    memory = g;
    body = refl;
    registers = hr;
    copies = hc;
    counts = record { most = omega arith; ticks = refl; dropped = refl; jobs = λ u. refl };
    phase = subst (λ (z : Phase). PhaseFit words blocks t.copies t.job.commands t.job.pairs z) (sym e) h;
  }
  phase-statement_fit p plain e h =
      let q = h.commands in
      subst (λ (z : List BodyCommand). TurnFit words blocks t (plain_tick p m t z)) (sym q)
      (plain_fit p h.command h.others q (subst (λ (z : List BodyCommand). OutsideFit words blocks z t.job.pairs) q h.outside))
  phase-statement_fit p (reading r w s) e h = read_fit g t hr hc r w h (read_tick m w s)
  phase-statement_fit p (exchanging r x) e h =
      swap_fit t hr hc r
      (record { others = h.others; commands = h.commands; register = h.register; outside = h.outside })
      x
      (exchange_tick p m x x.step)
      (exchange_fit p g h.exchange h.outside.pairs)
  phase-statement_fit p (transacting x s) e h = transaction-tick_fit most g t hr hc p s h

  -- one statement of the task
  pub statement_fit : (p : ℕ) → PhaseFit words blocks t.copies t.job.commands t.job.pairs t.job.phase
      → TurnFit words blocks t (statement p m t t.job.phase)
  statement_fit p h = phase-statement_fit p t.job.phase refl h
