-- What COMMIT leaves, and each tick of its exchange.
use Rattle.std.specs.Prelude.{◌≡◌, ℕ, true, false}
use Rattle.model.specs.Transaction.{nothing?, touched_count, spent?}
use Rattle.state.specs.State.{Own, with_entries}
use Rattle.state.specs.Held.{blocks_of}
use Rattle.exchanges.specs.Places.{if, Noted, noted}
use Rattle.jobs.specs.Jobs.{job, job_at, with_value, spent, counted, after_done}
use Rattle.transactions.specs.Blocks.{Gathering, gathered_all, taking_back}
use Rattle.transactions.specs.Accesses.{inner, loses_attempt}
use Rattle.exchanges.specs.declared.exchange.Step.TheVariants.{Start, Save}
use Rattle.exchanges.specs.declared.exchange.Exchanged.{Exchanged}
use Rattle.exchanges.specs.declared.exchange.Exchanged.TheVariants.{Goes, Finds, Ends}
use Rattle.jobs.specs.declared.Inner.TheVariants.{Committing}
use Rattle.jobs.specs.declared.Phase.TheVariants.{Idle, Transaction}
use Rattle.jobs.specs.declared.Job.{Job}
use Rattle.transactions.specs.declared.commits.Gathered.{Gathered}

-- how many entries were gathered, and the task with them
abbrev pub gathered_in : Own → Gathering → Noted ℕ
gathered_in t g = noted g.count (with_entries t g.entries)

-- GATHERING leaves of a task t the task u
pub record Gathers (t : Own) (g : Gathered) (u : Own) : Type 0 where
  -- each pass adds one of the touched blocks, by rising number
  pub entries : noted g.passes u ≡ gathered_in t (gathered_all t)
  pub passes : g.passes ≡ touched_count (blocks_of t.blocks)
  pub spent : g.spent ≡ spent? (blocks_of t.blocks)

-- the exchange of the gathered entries begins
abbrev pub exchange_of : Own → Job → Gathering → Noted Job
exchange_of t j g =
    noted (job (Transaction (Committing Start)) j.value j.at j.begin g.count j.used) (with_entries t g.entries)

-- by what was touched: nothing; a PUT block at the last version
unfoldable pub commit_by : Own → Job → Noted Job
commit_by t j =
    if (nothing? (blocks_of t.blocks)) (noted (after_done j 0) t)
    (if (spent? (blocks_of t.blocks)) (noted (job_at Idle j.at 0) (counted (with_entries t (gathered_all t).entries) spent))
    (exchange_of t j (gathered_all t)))

unfoldable pub committed_by : Own → Job → Exchanged → Noted Job
committed_by t j (Goes s) = noted (inner j (Committing s)) t
committed_by t j (Finds f) = noted (with_value j (Transaction (Committing (Save f.i))) f.value) t
committed_by t j (Ends true) = noted (after_done j 0) (taking_back t)
committed_by t j (Ends false) = loses_attempt t j
