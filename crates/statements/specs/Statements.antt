-- One statement of a task: it takes up the command at work, outside or inside a transaction, or goes on inside a command, by the
-- phase of its job.
use Rattle.std.specs.Prelude.{ℕ, Bool, true, false, List, ltb, get_or, Option, Some, None}
use Rattle.model.specs.Lists.{at}
use Rattle.commands.specs.declared.Outside.{Outside}
use Rattle.commands.specs.declared.Outside.TheVariants as O
use Rattle.commands.specs.declared.Inside.{Inside}
use Rattle.commands.specs.declared.Inside.TheVariants as I
use Rattle.commands.specs.declared.BodyCommand.{BodyCommand}
use Rattle.commands.specs.declared.BodyCommand.TheVariants as B
use Rattle.state.specs.State.{Shared, Own, set_register}
use Rattle.exchanges.specs.Places.{if, next_of, Went, Left, left}
use Rattle.exchanges.specs.Reading.{after_reading}
use Rattle.exchanges.specs.Exchange.{after_start, after_exchange}
use Rattle.jobs.specs.Jobs.{job_at, in_phase, next_line, added, keeping, entered, after_done, read_by, swap_by}
use Rattle.transactions.specs.Blocks.{bank_of, named_block, clearing}
use Rattle.transactions.specs.Accesses.{goes_on, first_read, after_copy, on_task, on_memory, access_tick, again_read}
use Rattle.transactions.specs.Commits.{commit_by, committed_by}
use Rattle.exchanges.specs.declared.read.Reading.TheVariants.{Load}
use Rattle.exchanges.specs.declared.exchange.Step.{Step}
use Rattle.exchanges.specs.declared.exchange.Exchanged.{Exchanged}
use Rattle.jobs.specs.declared.Inner.{Inner}
use Rattle.jobs.specs.declared.Inner.TheVariants.{Between, First, Copying, Again, Committing}
use Rattle.jobs.specs.declared.Phase.{Phase}
use Rattle.jobs.specs.declared.Phase.TheVariants as P
use Rattle.jobs.specs.declared.Job.{Job}

-- TAKING UP A COMMAND
-- SWAP's first statement
abbrev pub swap_started : Own → Job → ℕ → Went Step → Left Job
swap_started t j r w = left (in_phase j (P.Exchange r w.next)) w.memory t

-- a command that stands only outside a transaction
unfoldable pub outside_tick : Shared → Own → ℕ → Job → Outside → Left Job
outside_tick m t p j (O.Read r w) = on_task m (read_by t j r w (after_reading m w Load))
outside_tick m t p j (O.Pair w o n) =
    left (after_done j (next_of j.pairs)) m (entered t j.pairs w (at 0 t.registers o) (at 0 t.registers n))
outside_tick m t p j (O.Swap r) = swap_started t j r (after_start m p)
outside_tick m t p j O.Begin = left (job_at (P.Transaction Between) (next_line j) 0) m (clearing (keeping 8 t))

-- outside a transaction; the sheet check lets none of inside stand there
unfoldable pub plain_tick : Shared → Own → ℕ → Job → BodyCommand → Left Job
plain_tick m t p j (B.Load r v) = left (after_done j j.pairs) m (set_register t r v)
plain_tick m t p j (B.Add r q) = left (after_done j j.pairs) m (added t r q)
plain_tick m t p j (B.Outside c) = outside_tick m t p j c
plain_tick m t p j (B.Inside c) = left j m t

-- a command that stands only inside one
unfoldable pub inside_tick : Shared → Own → Job → Inside → Left Job
inside_tick m t j (I.Access a) = access_tick m t j a
inside_tick m t j I.Commit = on_task m (commit_by t j)

-- inside a transaction, between its inner steps; the sheet check lets none of outside stand there
unfoldable pub between_tick : Shared → Own → Job → BodyCommand → Left Job
between_tick m t j (B.Load r v) = left (goes_on j) m (set_register t r v)
between_tick m t j (B.Add r q) = left (goes_on j) m (added t r q)
between_tick m t j (B.Outside c) = left j m t
between_tick m t j (B.Inside c) = inside_tick m t j c

abbrev pub plain? : Phase → Bool
plain? P.Idle = false
plain? P.Plain = true
plain? (P.Read r w s) = false
plain? (P.Exchange r s) = false
plain? (P.Transaction i) = false

unfoldable pub begin_tick : Shared → Own → ℕ → Job → BodyCommand → Left Job
begin_tick m t p j c = if (plain? j.phase) (plain_tick m t p j c) (between_tick m t j c)

-- GOING ON INSIDE A COMMAND
unfoldable pub transact_tick : Shared → Own → Job → Inner → Left Job
transact_tick m t j Between = left j m t
transact_tick m t j (First a s) = on_task m (first_read t j a (after_reading m (bank_of (named_block a)) s))
transact_tick m t j (Copying a n) = on_memory t (after_copy m t j a n)
transact_tick m t j (Again a v s) = on_task m (again_read t j a v (after_reading m (bank_of (named_block a)) s))
transact_tick m t j (Committing s) = left j m t

-- what is no exchange's
unfoldable pub other_tick : Shared → Own → Job → Phase → Left Job
other_tick m t j P.Idle = left j m t
other_tick m t j P.Plain = left j m t
other_tick m t j (P.Read r w s) = on_task m (read_by t j r w (after_reading m w s))
other_tick m t j (P.Exchange r s) = left j m t
other_tick m t j (P.Transaction i) = transact_tick m t j i

-- the step of an exchange that a job is at
abbrev pub inner_step : Inner → Option Step
inner_step Between = None
inner_step (First a s) = None
inner_step (Copying a n) = None
inner_step (Again a v s) = None
inner_step (Committing s) = Some s

unfoldable pub exchange_step : Phase → Option Step
exchange_step P.Idle = None
exchange_step P.Plain = None
exchange_step (P.Read r w s) = None
exchange_step (P.Exchange r s) = Some s
exchange_step (P.Transaction i) = inner_step i

-- what a tick of its exchange makes of the job of SWAP, and of COMMIT
abbrev pub swap_tick : Job → ℕ → Left Exchanged → Left Job
swap_tick j r x = on_task x.memory (swap_by x.task j r x.next)

abbrev pub commit_tick : Job → Left Exchanged → Left Job
commit_tick j x = on_task x.memory (committed_by x.task j x.next)

unfoldable pub transaction_tick : Shared → Own → ℕ → Job → Inner → Left Job
transaction_tick m t p j Between = transact_tick m t j Between
transaction_tick m t p j (First a s) = transact_tick m t j (First a s)
transaction_tick m t p j (Copying a n) = transact_tick m t j (Copying a n)
transaction_tick m t p j (Again a v s) = transact_tick m t j (Again a v s)
transaction_tick m t p j (Committing s) = commit_tick j (after_exchange m t p j.pairs j.value s)

unfoldable pub step_tick : Shared → Own → ℕ → Job → Phase → Left Job
step_tick m t p j P.Idle = other_tick m t j P.Idle
step_tick m t p j P.Plain = other_tick m t j P.Plain
step_tick m t p j (P.Read r w s) = other_tick m t j (P.Read r w s)
step_tick m t p j (P.Exchange r s) = swap_tick j r (after_exchange m t p j.pairs j.value s)
step_tick m t p j (P.Transaction i) = transaction_tick m t p j i

-- ONE STATEMENT of task p. A command is taken up outside a transaction and between its inner steps.
abbrev pub between? : Inner → Bool
between? Between = true
between? (First a s) = false
between? (Copying a n) = false
between? (Again a v s) = false
between? (Committing s) = false

abbrev pub starting? : Phase → Bool
starting? P.Idle = false
starting? P.Plain = true
starting? (P.Read r w s) = false
starting? (P.Exchange r s) = false
starting? (P.Transaction i) = between? i

-- the command at a line of the program, at the last one for a line that there is not
abbrev pub line_of : ℕ → ℕ
line_of n = if (ltb n 512) n 511

abbrev pub command_in : List BodyCommand → ℕ → BodyCommand
command_in program n = get_or program (line_of n) (B.Load 0 0)

unfoldable pub statement : List BodyCommand → Shared → Own → ℕ → Job → Left Job
statement program m t p j =
    if (starting? j.phase) (begin_tick m t p j (command_in program j.at)) (step_tick m t p j j.phase)
