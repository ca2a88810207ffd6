-- A job, its counts and registers, and what the end of a plain command, of READ and of SWAP leaves.
use Rattle.std.specs.Prelude.{ℕ, zero, suc, ◌+◌, ◌%◌, true, List}
use Rattle.model.specs.Lists.{at, replace}
use Rattle.model.specs.Machine.{answer}
use Rattle.state.specs.Packed.{packed}
use Rattle.state.specs.State.{Entries, Own, with_registers, with_kept, with_entries, set_register, set_count}
use Rattle.exchanges.specs.Places.{Noted, noted}
use Rattle.exchanges.specs.declared.read.Read.{Read}
use Rattle.exchanges.specs.declared.read.Read.TheVariants.{Reads, Gives}
use Rattle.exchanges.specs.declared.exchange.Exchanged.{Exchanged}
use Rattle.exchanges.specs.declared.exchange.Exchanged.TheVariants.{Goes, Finds, Ends}
use Rattle.exchanges.specs.declared.exchange.Step.TheVariants.{Save}
use Rattle.jobs.specs.declared.Phase.{Phase}
use Rattle.jobs.specs.declared.Phase.TheVariants as P
use Rattle.jobs.specs.declared.Job.{Job}

abbrev pub job : Phase → ℕ → ℕ → ℕ → ℕ → ℕ → Job
job f v a b k u = record { phase = f; value = v; at = a; begin = b; pairs = k; used = u }

abbrev pub job_at : Phase → ℕ → ℕ → Job
job_at f line pairs = job f 0 line line pairs 0

abbrev pub in_phase : Job → Phase → Job
in_phase j f = job f j.value j.at j.begin j.pairs j.used

abbrev pub with_value : Job → Phase → ℕ → Job
with_value j f v = job f v j.at j.begin j.pairs j.used

-- the line after the one at work
abbrev pub next_line : Job → ℕ
next_line j = (j.at + 1) % 18446744073709551616

-- THE COUNTS of a task, in the order of its T line
abbrev pub finished : ℕ
finished = 0

abbrev pub spent : ℕ
spent = 1

abbrev pub lost : ℕ
lost = 2

abbrev pub ticks : ℕ
ticks = 3

abbrev pub dropped : ℕ
dropped = 4

-- a count rises by one
unfoldable pub counted : Own → ℕ → Own
counted t n = set_count t n ((at 0 t.counts n + 1) % 4294967296)

unfoldable pub added : Own → ℕ → ℕ → Own
added t r q = set_register t r ((at 0 t.registers r + at 0 t.registers q) % 4294967296)

-- the first n numbers copied from one list to another
unfoldable pub copied : ℕ → List ℕ → List ℕ → List ℕ
copied zero to from = to
copied (suc n) to from = replace (copied n to from) n (at 0 from n)

-- the first n of a list are 0
unfoldable pub zeroed : ℕ → List ℕ → List ℕ
zeroed zero l = l
zeroed (suc n) l = replace (zeroed n l) n 0

-- BEGIN keeps the eight registers, a restart gives them back
abbrev pub keeping : ℕ → Own → Own
keeping n t = with_kept t (copied n t.kept t.registers)

abbrev pub restoring : ℕ → Own → Own
restoring n t = with_registers t (copied n t.registers t.kept)

-- entry n, with nothing loaded yet
unfoldable pub entered_in : Entries → ℕ → ℕ → ℕ → ℕ → Entries
entered_in e n target old new =
    record {
      targets = replace e.targets n target;
      olds = replace e.olds n old;
      news = replace e.news n new;
      inits = replace e.inits n (packed 0 0 true 0);
      overlapped = replace e.overlapped n 0;
    }

abbrev pub entered : Own → ℕ → ℕ → ℕ → ℕ → Own
entered t n target old new = with_entries t (entered_in t.entries n target old new)

-- the command is done: the next line is at work
abbrev pub after_done : Job → ℕ → Job
after_done j pairs = job_at P.Plain (next_line j) pairs

unfoldable pub read_by : Own → Job → ℕ → ℕ → Read → Noted Job
read_by t j r w (Reads s) = noted (in_phase j (P.Read r w s)) t
read_by t j r w (Gives v) = noted (after_done j j.pairs) (set_register t r v)

unfoldable pub swap_by : Own → Job → ℕ → Exchanged → Noted Job
swap_by t j r (Goes s) = noted (in_phase j (P.Exchange r s)) t
swap_by t j r (Finds f) = noted (with_value j (P.Exchange r (Save f.i)) f.value) t
swap_by t j r (Ends yes?) = noted (after_done j 0) (set_register t r (answer yes?))
