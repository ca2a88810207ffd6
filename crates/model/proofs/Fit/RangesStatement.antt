-- Statements and ticks keep the ranges.
use Prim.Native.Nat.{ℕ, zero, suc, ◌<◌}
use mathlib.Core.Path.{refl}
use mathlib.Core.Bool.{Bool, true, false}
use mathlib.Core.List.{List, [], ◌∷◌}
use native.Mathlib.Omega.{arith}
use lib.ListN.{length, replicate}
use Rattle.model.specs.Lists.{at, replace}
use Rattle.model.specs.Command.{Outside, READ, PAIR, SWAP, BEGIN, BodyCommand, LOAD, ADD, outside, inside}
use Rattle.model.specs.Word.{Memory, loading, Read, reads, gives, read_tick}
use Rattle.model.specs.Sheet.{Sheet}
use Rattle.model.specs.Exchange.{Entry, entry, Exchanged, goes, ends, exchange_of, start, exchange_tick, Exchange}
use Rattle.model.specs.Job.{between, Phase, idle, plain, reading, exchanging, transacting, Task, turn, started, ticks, dropped, Deed, Turn}
use Rattle.model.specs.Transaction.{loaded, added, fresh_transaction}
use Rattle.model.specs.Machine.{answer, read_by, swap_by, plain_tick, statement, Machine, no_task, task_at, starting, Running, nobody}
use Rattle.model.specs.Machine.{running, running_of, move, move_any, tick, enter, beginning, outside_tick, recorded}
use Rattle.model.specs.Arguments.{Arguments}
use Rattle.model.proofs.Fit.Elements.{replace-all, append_all, replicate-every}
use Rattle.model.proofs.Fit.Sheet.{SheetFit}
use Rattle.model.proofs.Fit.Machine.{PhaseFit, TaskFit, Fit}
use Rattle.model.proofs.Fit.Running.{RunningFit, running_fit}
use Rattle.model.proofs.Fit.Enter.{Entering, oldest, starts, waits, drops, along, entered}
use Rattle.model.proofs.Fit.Releases.{tasks-of, enter_fit}
use Rattle.model.proofs.Fit.Tick.{declared, after-ticks_fit}
use Rattle.model.proofs.History.Steps.{state_after}
use Rattle.model.proofs.Fit.Ranges.{Value, MemoryRange, ReadRange, EntryRange, CommandsRange, PhaseRange, TaskRange, counting-range, Ranges}
use Rattle.model.proofs.Fit.RangesExchange.{read-range, ExchangedRange, exchange-range}
use Rattle.model.proofs.Fit.RangesTransaction.{TurnRange, no-entry, no_entry-range, done-range, in_phase-range}
use Rattle.model.proofs.Fit.RangesTransaction.{fresh-range, within-range, loaded-range, added-range, transaction-range}

module _ {m : Memory} (g : MemoryRange m) {t : Task} (f : TaskRange t) where
  read-by-range : (r w : ℕ) (o : Read) → ReadRange o → TurnRange (read_by m t r w o)
  unfolding read_by
  read-by-range r w (reads s) k = record { memory = g; task = in_phase-range f (reading r w s) k }
  read-by-range r w (gives v) k =
      record { memory = g; task = done-range f (replace t.job.registers r v) t.job.pairs t.copies (loaded-range f r v k) f.pair f.copy }

  answer-range : (yes? : Bool) → Value (answer yes?)
  answer-range true = omega arith
  answer-range false = omega arith

  swap-by-range : (r : ℕ) (v : Exchange) (o : Exchanged) → ExchangedRange o → TurnRange (swap_by t r v o)
  unfolding swap_by
  swap-by-range r v (goes n x) k = record { memory = k.memory; task = in_phase-range f (exchanging r x) k.exchange }
  swap-by-range r v (ends n yes?) k = record {
    memory = k;
    task =
        done-range f (replace t.job.registers r (answer yes?)) [] t.copies (loaded-range f r (answer yes?) (answer-range yes?)) no_entry-range
        f.copy;
  }

  -- the same turn as the first of an operation
  first_range : {u : Turn} {a : Arguments} → TurnRange u → TurnRange (beginning a u)
  first_range k = record { memory = k.memory; task = k.task }

  same-range : {d : Deed} → TurnRange (turn m t d)
  same-range = record { memory = g; task = f }

  outside-range : (p : ℕ) → p < 8 → (l : List BodyCommand) → CommandsRange l → (c : Outside) → TurnRange (outside_tick p m t l c)
  unfolding outside_tick
  outside-range p hp l k (READ r w) = first_range (read-by-range r w (read_tick m w loading) (read-range g w loading tt))
  outside-range p hp l k (PAIR w o n) =
      let e : Entry = entry w (at 0 t.job.registers o) (at 0 t.job.registers n) in
      let last : EntryRange e = record { old = f.register o; new = f.register n; init = no-entry.init } in
      record {
        memory = g;
        task =
            done-range f t.job.registers (recorded t w o n) t.copies f.register
            (append_all (entry 0 0 0) EntryRange t.job.pairs e no-entry last f.pair) f.copy;
      }
  outside-range p hp l k (SWAP r) =
      let x = exchange_of t.job.pairs in
      first_range (swap-by-range r x (exchange_tick p m x start) (exchange-range p hp g x f.pair 8 (omega arith) start refl tt))
  outside-range p hp l k BEGIN =
      let rs = t.job.registers in
      record { memory = g; task = within-range f l rs (fresh_transaction rs l) between k f.register (fresh-range rs l f.register k) }

  plain-range : (p : ℕ) → p < 8 → (l : List BodyCommand) → CommandsRange l → TurnRange (plain_tick p m t l)
  unfolding plain_tick
  plain-range p hp [] k = same-range
  plain-range p hp (LOAD r v ∷ l) k = record {
    memory = g;
    task = done-range f (loaded t.job.registers r v) t.job.pairs t.copies (loaded-range f r v k.command) f.pair f.copy;
  }
  plain-range p hp (ADD r q ∷ l) k =
      record { memory = g; task = done-range f (added t.job.registers r q) t.job.pairs t.copies (added-range f r q) f.pair f.copy }
  plain-range p hp (outside c ∷ l) k = outside-range p hp l k.others c
  plain-range p hp (inside c ∷ l) k = same-range

  phase-range : (words blocks p : ℕ) → p < 8 → (s : Phase) → PhaseFit words blocks t.copies t.job.commands t.job.pairs s → PhaseRange s
      → TurnRange (statement p m t s)
  unfolding statement
  phase-range words blocks p hp idle h k = same-range
  phase-range words blocks p hp plain h k = plain-range p hp t.job.commands f.commands
  phase-range words blocks p hp (reading r w s) h k = read-by-range r w (read_tick m w s) (read-range g w s k)
  phase-range words blocks p hp (exchanging r x) h k =
      let e = h.exchange in
      swap-by-range r x (exchange_tick p m x x.step)
      (exchange-range p hp g x k.entry (length x.entries) e.entries.most x.step e.step k.step)
  phase-range words blocks p hp (transacting x s) h k = transaction-range p hp g f s h k

  pub statement-range : {words blocks now : ℕ} {text : List BodyCommand} (p : ℕ) → p < 8 → TaskFit words blocks text now t
      → TurnRange (statement p m t t.job.phase)
  statement-range {words} {blocks} p hp h = phase-range words blocks p hp t.job.phase h.phase f.phase

-- RELEASES
pub zeros-range : (n r : ℕ) → Value (at 0 (replicate n 0) r)
zeros-range n r = replicate-every 0 Value n 0 (omega arith) (omega arith) r

started-range : {t : Task} → TaskRange t → TaskRange (started t)
started-range f = record { body = f.body; commands = f.body; register = zeros-range 8; pair = no_entry-range; copy = f.copy; phase = tt }

starting-range : {m : Machine} → Ranges m → (p : ℕ) → (q : ℕ) → TaskRange (task_at (starting p m).tasks q)
starting-range {m} f p = replace-all no_task TaskRange m.tasks p _ (started-range (f.task p)) f.task

pub entering-range : (m n : Machine) → Entering m n → Ranges m → Ranges n
entering-range m n (oldest p r l h u w) f = record { memory = f.memory; task = starting-range f p }
entering-range m n (starts r l d u) f = record { memory = f.memory; task = starting-range f r.task }
entering-range m n (waits r l d u k) f = record { memory = f.memory; task = f.task }
entering-range m n (drops r l d u k) f =
    record { memory = f.memory; task = replace-all no_task TaskRange m.tasks r.task _ (counting-range dropped (f.task r.task)) f.task }

-- TICKS
module _ {s : Sheet} (c : SheetFit s) where
  move-range : {m : Machine} → Fit s m → Ranges m → (r : Running) → RunningFit m r → Ranges (move m r)
  unfolding move
  move-range f k nobody r = record { memory = k.memory; task = k.task }
  move-range {m} f k (running p) r =
      let h = declared c (tasks-of f) p r.unfinished in
      let u = statement-range k.memory (k.task p) p (omega (arith, h, c.bodies)) (f.task p h) in
      record { memory = u.memory; task = replace-all no_task TaskRange m.tasks p _ (counting-range ticks u.task) k.task }

  pub tick-range : {m : Machine} → Fit s m → Ranges m → Ranges (tick m)
  unfolding tick move_any
  tick-range {m} f k =
      let n : Machine = enter m in
      move-range (enter_fit c f) (along Ranges entering-range (entered m []) k) (running_of n) (running_fit n)

  pub after-ticks-range : (n : ℕ) {m : Machine} → Fit s m → Ranges m → Ranges (state_after m n)
  unfolding state_after
  after-ticks-range zero f k = k
  after-ticks-range (suc n) f k = tick-range (after-ticks_fit c n f) (after-ticks-range n f k)
