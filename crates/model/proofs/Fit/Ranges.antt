-- The ranges of all numbers of a machine: 32-bit values, counts and tasks below 8, status at most 2, copy slots below 256.
use Prim.Native.Nat.{ℕ, ◌<◌, ◌≤◌}
use mathlib.Core.List.{List, [], ◌∷◌}
use Rattle.model.specs.Ceilings.{value_range}
use Rattle.model.specs.Lists.{at}
use Rattle.model.specs.Command.{BodyCommand, LOAD, ADD, outside, inside}
use Rattle.model.specs.Word.{Word, Memory, cell_of, status_of, saved, stored, Reading, loading, looking, fetching, Read, reads, gives}
use Rattle.model.specs.Exchange.{Entry, Step, start, test, load, look, fetch, fail, mark, install, commit, save, clean, clean_mark, Exchange}
use Rattle.model.specs.Job.{Touched, untouched, remembered, copied, Transaction, Inner, between, first, copying}
use Rattle.model.specs.Job.{again, committing, Phase, idle, plain, reading, exchanging, transacting, Count, Task, counting}
use Rattle.model.specs.Transaction.{touched_of}
use Rattle.model.specs.Machine.{Machine, task_at}
use Rattle.model.proofs.Fit.Exchange.{entry_of}

abbrev pub Value : ℕ → Type 0
Value v = v < value_range

pub record WordRange (w : Word) : Type 0 where
  pub value : Value w.value
  pub count : w.count < 8
  pub task : w.task < 8

pub record MemoryRange (m : Memory) : Type 0 where
  pub cell : (c : ℕ) → WordRange (cell_of m c)
  pub status : (p : ℕ) → status_of m p ≤ 2
  pub save : (p i : ℕ) → Value (saved m.saves p i)
  pub store : (s n : ℕ) → Value (stored m.stores s n)

abbrev pub ReadingRange : Reading → Type 0
ReadingRange loading = Unit {0}
ReadingRange (looking w) = WordRange w
ReadingRange (fetching w) = WordRange w

-- of a tick of a read
abbrev pub ReadRange : Read → Type 0
ReadRange (reads r) = ReadingRange r
ReadRange (gives v) = Value v

pub record EntryRange (e : Entry) : Type 0 where
  pub old : Value e.old
  pub new : Value e.new
  pub init : WordRange e.init

abbrev pub StepRange : Step → Type 0
StepRange (save v) = Value v
StepRange start = Unit {0}
StepRange test = Unit {0}
StepRange load = Unit {0}
StepRange look = Unit {0}
StepRange fetch = Unit {0}
StepRange fail = Unit {0}
StepRange mark = Unit {0}
StepRange install = Unit {0}
StepRange commit = Unit {0}
StepRange (clean j yes?) = Unit {0}
StepRange (clean_mark j yes?) = Unit {0}

pub record ExchangeRange (x : Exchange) : Type 0 where
  pub entry : (i : ℕ) → EntryRange (entry_of x.entries i)
  pub step : StepRange x.step

abbrev pub TouchedRange : Touched → Type 0
TouchedRange untouched = Unit {0}
TouchedRange (remembered v) = Value v
TouchedRange (copied v k) = Value v

-- of a command: the value that LOAD writes
abbrev pub CommandRange : BodyCommand → Type 0
CommandRange (LOAD r v) = Value v
CommandRange (ADD r q) = Unit {0}
CommandRange (outside c) = Unit {0}
CommandRange (inside c) = Unit {0}

pub record Ranged (c : BodyCommand) (Others : Type 0) : Type 0 where
  pub command : CommandRange c
  pub others : Others

abbrev pub CommandsRange : List BodyCommand → Type 0
CommandsRange [] = Unit {0}
CommandsRange (c ∷ l) = Ranged c (CommandsRange l)

pub record AgainRange (v : ℕ) (r : Reading) : Type 0 where
  pub value : Value v
  pub reading : ReadingRange r

abbrev pub InnerRange : Inner → Type 0
InnerRange between = Unit {0}
InnerRange (first a r) = ReadingRange r
InnerRange (copying a n) = Unit {0}
InnerRange (again a v r) = AgainRange v r
InnerRange (committing e) = ExchangeRange e

pub record TransactionRange (x : Transaction) (s : Inner) : Type 0 where
  pub kept : (r : ℕ) → Value (at 0 x.kept r)
  pub commands : CommandsRange x.commands
  pub block : (b : ℕ) → TouchedRange (touched_of x b)
  pub inner : InnerRange s

abbrev pub PhaseRange : Phase → Type 0
PhaseRange idle = Unit {0}
PhaseRange plain = Unit {0}
PhaseRange (reading r w s) = ReadingRange s
PhaseRange (exchanging r x) = ExchangeRange x
PhaseRange (transacting x s) = TransactionRange x s

pub record TaskRange (t : Task) : Type 0 where
  pub body : CommandsRange t.body
  pub commands : CommandsRange t.job.commands
  pub register : (r : ℕ) → Value (at 0 t.job.registers r)
  pub pair : (i : ℕ) → EntryRange (entry_of t.job.pairs i)
  pub copy : (k : ℕ) → at 0 t.copies k < 256
  pub phase : PhaseRange t.job.phase

-- a count may rise
pub counting-range : {t : Task} (c : Count) → TaskRange t → TaskRange (counting c t)
counting-range c f = record { body = f.body; commands = f.commands; register = f.register; pair = f.pair; copy = f.copy; phase = f.phase }

pub record Ranges (m : Machine) : Type 0 where
  pub memory : MemoryRange m.memory
  pub task : (p : ℕ) → TaskRange (task_at m.tasks p)
