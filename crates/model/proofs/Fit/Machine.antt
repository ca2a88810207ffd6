-- A well formed machine: `Fit`, with the facts of each task by its phase.
use Prim.Native.Nat.{ℕ, ◌+◌, ◌<◌, ◌≤◌}
use mathlib.Core.Path.{◌≡◌}
use mathlib.Core.Bool.{false}
use mathlib.Core.List.{List, [], ◌∷◌, map}
use lib.ListN.{length}
use Rattle.model.specs.Lists.{at}
use Rattle.model.specs.Command.{Release, READ, SWAP, BodyCommand, outside}
use Rattle.model.specs.Fault.{Known}
use Rattle.model.specs.Sheet.{Sheet}
use Rattle.model.specs.Exchange.{Entry, Exchange}
use Rattle.model.specs.Job.{Phase, idle, plain, reading, exchanging, transacting, Task}
use Rattle.model.specs.Machine.{Machine, no_task, task_at, waiting_at}
use Rattle.model.proofs.Fit.Body.{Faultless, Open}
use Rattle.model.proofs.Fit.Sheet.{ReleasesFit}
use Rattle.model.proofs.Fit.Memory.{MemoryFit}
use Rattle.model.proofs.Fit.Exchange.{EntriesFit, Unloaded, ExchangeFit}
use Rattle.model.proofs.Fit.Transaction.{TransactionFit}

abbrev pub word_of : Entry → ℕ
word_of e = e.cell

-- a job with no command left, in which no PAIR waits
pub record IdleFit (l : List BodyCommand) (ps : List Entry) : Type 0 where
  pub commands : l ≡ []
  pub no_pairs : ps ≡ []

-- a job outside a transaction, with its waiting PAIRs
pub record OutsideFit (words blocks : ℕ) (l : List BodyCommand) (ps : List Entry) : Type 0 where
  pub known : Known
  pub opened : Open words blocks known
  pub outside : known.body.inside ≡ false
  pub waiting : known.body.pairs ≡ map word_of ps
  pub faultless : Faultless known l
  pub pairs : EntriesFit 0 words ps
  pub unloaded : Unloaded ps

pub record PlainFit (words blocks : ℕ) (l : List BodyCommand) (ps : List Entry) : Type 0 where
  pub command : BodyCommand
  pub others : List BodyCommand
  pub commands : l ≡ command ∷ others
  pub outside : OutsideFit words blocks l ps

pub record ReadingFit (words blocks : ℕ) (l : List BodyCommand) (ps : List Entry) (r w : ℕ) : Type 0 where
  pub others : List BodyCommand
  pub commands : l ≡ outside (READ r w) ∷ others
  pub register : r < 8
  pub word : w < words
  pub outside : OutsideFit words blocks l ps

pub record ExchangingFit (words blocks : ℕ) (l : List BodyCommand) (ps : List Entry) (r : ℕ) (x : Exchange) : Type 0 where
  pub others : List BodyCommand
  pub commands : l ≡ outside (SWAP r) ∷ others
  pub register : r < 8
  pub exchange : ExchangeFit 0 words ps x
  pub outside : OutsideFit words blocks l ps

-- in a sheet with that many words and blocks: copy slots, the job's commands, waiting PAIRs, phase
abbrev pub PhaseFit : ℕ → ℕ → List ℕ → List BodyCommand → List Entry → Phase → Type 0
PhaseFit words blocks copies l ps idle = IdleFit l ps
PhaseFit words blocks copies l ps plain = PlainFit words blocks l ps
PhaseFit words blocks copies l ps (reading r w s) = ReadingFit words blocks l ps r w
PhaseFit words blocks copies l ps (exchanging r x) = ExchangingFit words blocks l ps r x
PhaseFit words blocks copies l ps (transacting x s) = TransactionFit words blocks copies l ps x s

-- a declared task with that body, after `now` ticks
pub record TaskFit (words blocks : ℕ) (text : List BodyCommand) (now : ℕ) (t : Task) : Type 0 where
  pub body : t.body ≡ text
  pub registers : length t.job.registers ≡ 8
  pub copies : length t.copies ≡ 4
  pub counts : t.counts.finished + t.counts.spent + t.counts.lost ≤ t.counts.ticks
  pub ticks : t.counts.ticks ≤ now
  pub phase : PhaseFit words blocks t.copies t.job.commands t.job.pairs t.job.phase

-- task p of the sheet
abbrev pub DeclaredFit : Sheet → ℕ → ℕ → Task → Type 0
DeclaredFit s now p t = TaskFit (length s.words) (length s.blocks) (at [] s.bodies p) now t

-- behind each of eight jobs wait at most four releases, and none behind those of tasks that the sheet does not declare
pub record WaitingFit (declared : ℕ) (ws : List (List Release)) : Type 0 where
  pub size : length ws ≡ 8
  pub most : (p : ℕ) → length (waiting_at ws p) ≤ 4
  pub undeclared : (p : ℕ) → declared ≤ p → waiting_at ws p ≡ []

pub record Fit (s : Sheet) (m : Machine) : Type 0 where
  pub memory : MemoryFit m.memory
  pub tasks : length m.tasks ≡ 8
  -- the tasks that the sheet declares, and the others
  pub task : (p : ℕ) → p < length s.bodies → DeclaredFit s m.now p (task_at m.tasks p)
  pub undeclared : (p : ℕ) → length s.bodies ≤ p → task_at m.tasks p ≡ no_task
  pub waiting : WaitingFit (length s.bodies) m.waiting
  pub releases : ReleasesFit (length s.bodies) m.now m.releases
  pub dropped : (p : ℕ) → (task_at m.tasks p).counts.dropped + length m.releases ≤ 256
