-- The model's memory and tasks that the code's records hold.
use Prim.Native.Nat.{ℕ}
use mathlib.Core.Bool.{not}
use mathlib.Core.List.{List, []}
use lib.Dec.{eqb}
use Rattle.model.specs.Lists.{at}
use Rattle.model.specs.Command as C
use Rattle.model.specs.Word as W
use Rattle.model.specs.Exchange as X
use Rattle.model.specs.Job as J
use Rattle.commands.specs.View.{view_access}
use Rattle.commands.specs.declared.BodyCommand.{BodyCommand}
use Rattle.state.specs.Packed.{unpack}
use Rattle.state.specs.State.{Entries, Own}
use Rattle.state.specs.Held.{blocks_of}
use Rattle.exchanges.specs.declared.read.Reading.{Reading}
use Rattle.exchanges.specs.declared.read.Read.{Read}
use Rattle.exchanges.specs.declared.read.Read.TheVariants.{Reads, Gives}
use Rattle.exchanges.specs.declared.exchange.Step.{Step}
use Rattle.jobs.specs.declared.Inner.{Inner}
use Rattle.jobs.specs.declared.Phase.{Phase}
use Rattle.jobs.specs.declared.Job.{Job}
use Rattle.program.specs.Program.{commands_in}
use Rattle.refinement.proofs.Tabulate.{tabulate}

abbrev pub reading_of : Reading → W.Reading
reading_of Reading.Load = W.loading
reading_of (Reading.Look w) = W.looking (unpack w)
reading_of (Reading.Fetch w) = W.fetching (unpack w)

abbrev pub read_of : Read → W.Read
read_of (Reads s) = W.reads (reading_of s)
read_of (Gives v) = W.gives v

-- entry n of an exchange, and as a PAIR that waits
abbrev pub entry_of : Entries → ℕ → X.Entry
entry_of e n =
    record {
      cell = at 0 e.targets n;
      old = at 0 e.olds n;
      new = at 0 e.news n;
      init = unpack (at 0 e.inits n);
      overlapped = not (eqb (at 0 e.overlapped n) 0);
    }

unfoldable pub entries_of : ℕ → Entries → List X.Entry
entries_of k e = tabulate k (entry_of e)

unfoldable pub pairs_of : ℕ → Entries → List X.Entry
pairs_of k e = tabulate k (λ n. X.entry (at 0 e.targets n) (at 0 e.olds n) (at 0 e.news n))

-- the number of the entry at work, and the step
abbrev pub number_of : Step → ℕ
number_of Step.Start = 0
number_of (Step.Test i) = i
number_of (Step.Load i) = i
number_of (Step.Look i) = i
number_of (Step.Fetch i) = i
number_of (Step.Save i) = i
number_of (Step.Fail i) = i
number_of (Step.Mark i) = i
number_of (Step.Install i) = i
number_of (Step.Commit i) = i
number_of (Step.Clean i j yes?) = i
number_of (Step.CleanMark i j yes?) = i

-- by: the value found last
abbrev pub step_of : ℕ → Step → X.Step
step_of v Step.Start = X.start
step_of v (Step.Test i) = X.test
step_of v (Step.Load i) = X.load
step_of v (Step.Look i) = X.look
step_of v (Step.Fetch i) = X.fetch
step_of v (Step.Save i) = X.save v
step_of v (Step.Fail i) = X.fail
step_of v (Step.Mark i) = X.mark
step_of v (Step.Install i) = X.install
step_of v (Step.Commit i) = X.commit
step_of v (Step.Clean i j yes?) = X.clean j yes?
step_of v (Step.CleanMark i j yes?) = X.clean_mark j yes?

abbrev pub exchange_of : List X.Entry → ℕ → Step → X.Exchange
exchange_of es v s = record { entries = es; i = number_of s; step = step_of v s }

abbrev pub inner_of : Job → Own → Inner → J.Inner
inner_of j t Inner.Between = J.between
inner_of j t (Inner.First c s) = J.first (view_access c) (reading_of s)
inner_of j t (Inner.Copying c n) = J.copying (view_access c) n
inner_of j t (Inner.Again c v s) = J.again (view_access c) v (reading_of s)
inner_of j t (Inner.Committing s) = J.committing (exchange_of (entries_of j.pairs t.entries) j.value s)

-- no PAIRs wait in a transaction
abbrev pub waiting_of : Job → Own → Phase → List X.Entry
waiting_of j t Phase.Idle = pairs_of j.pairs t.entries
waiting_of j t Phase.Plain = pairs_of j.pairs t.entries
waiting_of j t (Phase.Read r w s) = pairs_of j.pairs t.entries
waiting_of j t (Phase.Exchange r s) = pairs_of j.pairs t.entries
waiting_of j t (Phase.Transaction s) = []

-- OF A TASK whose body ends before a line of the program
-- the counts, in the order of the T line
abbrev pub counts_of : Own → J.Counts
counts_of t =
    J.counts (at 0 t.counts 0) (at 0 t.counts 1) (at 0 t.counts 2) (at 0 t.counts 3) (at 0 t.counts 4)

module _ (program : List BodyCommand) (end : ℕ) where
  abbrev pub transaction_of : Job → Own → J.Transaction
  transaction_of j t = record { kept = t.kept; commands = commands_in program j.begin end; blocks = blocks_of t.blocks; used = j.used }

  abbrev pub phase_of : Job → Own → Phase → J.Phase
  phase_of j t Phase.Idle = J.idle
  phase_of j t Phase.Plain = J.plain
  phase_of j t (Phase.Read r w s) = J.reading r w (reading_of s)
  phase_of j t (Phase.Exchange r s) = J.exchanging r (exchange_of (entries_of j.pairs t.entries) j.value s)
  phase_of j t (Phase.Transaction s) = J.transacting (transaction_of j t) (inner_of j t s)

  -- an idle job has no commands left
  abbrev pub commands_of : Job → Phase → List C.BodyCommand
  commands_of j Phase.Idle = []
  commands_of j Phase.Plain = commands_in program j.at end
  commands_of j (Phase.Read r w s) = commands_in program j.at end
  commands_of j (Phase.Exchange r s) = commands_in program j.at end
  commands_of j (Phase.Transaction s) = commands_in program j.at end

  -- the task with that body
  abbrev pub task_of : List C.BodyCommand → Job → Own → J.Task
  task_of body j t =
      J.task body t.copies (counts_of t)
      (J.job (phase_of j t j.phase) (commands_of j j.phase) t.registers (waiting_of j t j.phase))
