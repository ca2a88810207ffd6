-- What a tick of GET or PUT leaves.
use Rattle.std.specs.Prelude.{ℕ, ◌+◌, ◌-◌, ◌*◌, ◌/◌, ◌%◌, Bool, true, false, ◌==◌}
use Rattle.model.specs.Lists.{at}
use Rattle.commands.specs.declared.Access.{Access}
use Rattle.commands.specs.declared.Access.TheVariants.{Get, Put}
use Rattle.state.specs.State.{Shared, Own, set_value, set_register, set_slot}
use Rattle.state.specs.Held.{touched_in}
use Rattle.exchanges.specs.Places.{if, next_of, Went, went, Noted, noted, Left, left}
use Rattle.exchanges.specs.Reading.{after_reading}
use Rattle.jobs.specs.Jobs.{job, job_at, in_phase, next_line, lost, counted, restoring}
use Rattle.transactions.specs.Blocks.{bank_of, named_block, slot_at, remembered_at, touching, clearing}
use Rattle.exchanges.specs.declared.read.Reading.TheVariants.{Load}
use Rattle.exchanges.specs.declared.read.Read.{Read}
use Rattle.exchanges.specs.declared.read.Read.TheVariants.{Reads, Gives}
use Rattle.jobs.specs.declared.Inner.{Inner}
use Rattle.jobs.specs.declared.Inner.TheVariants.{Between, First, Copying, Again}
use Rattle.jobs.specs.declared.Phase.TheVariants.{Transaction}
use Rattle.jobs.specs.declared.Job.{Job}

abbrev pub inner : Job → Inner → Job
inner j s = in_phase j (Transaction s)

-- the next command of the transaction
abbrev pub goes_on : Job → Job
goes_on j = job (Transaction Between) j.value (next_line j) j.begin 0 j.used

unfoldable pub first_read : Own → Job → Access → Read → Noted Job
first_read t j a (Reads s) = noted (inner j (First a s)) t
first_read t j a (Gives v) = noted (inner j Between) (touching (named_block a) v t)

-- the store of a touched block: the own copy if PUT before
abbrev pub store_for : Own → ℕ → ℕ
store_for t b = if (slot_at t b == 0) (remembered_at t b % 256) (at 0 t.copies (slot_at t b - 1))

unfoldable pub got_by : Shared → Own → Job → Access → ℕ → ℕ → Job
got_by m t j a b o = inner j (Again a (at 0 m.stores (8 * store_for t b + o)) Load)

abbrev pub copy_by : Bool → Job → Access → ℕ → Job
copy_by true j a n = inner j (Again a 0 Load)
copy_by false j a n = inner j (Copying a (next_of n))

-- value n goes into the next copy store
unfoldable pub after_copy : Shared → Own → Job → Access → ℕ → Went Job
after_copy m t j a n =
    went (copy_by (next_of n == 8) j a n)
    (set_value m (8 * at 0 t.copies j.used + n) (at 0 m.stores (8 * (remembered_at t (named_block a) % 256) + n)))

unfoldable pub after_put : Shared → Own → Job → ℕ → ℕ → ℕ → Went Job
after_put m t j b o r = went (goes_on j) (set_value m (8 * store_for t b + o) (at 0 t.registers r))

abbrev pub on_task : Shared → Noted Job → Left Job
on_task m w = left w.next m w.task

abbrev pub on_memory : Own → Went Job → Left Job
on_memory t w = left w.next w.memory t

-- a GET or a PUT of a touched block; PUT copies it first
abbrev pub touched_tick : Shared → Own → Job → Access → Left Job
touched_tick m t j (Get r b o) = left (got_by m t j (Get r b o) b o) m t
touched_tick m t j (Put b o r) = on_memory t (if (slot_at t b == 0) (after_copy m t j (Put b o r) 0) (after_put m t j b o r))

unfoldable pub access_tick : Shared → Own → Job → Access → Left Job
access_tick m t j a =
    if (touched_in t.blocks.touched (named_block a % 16)) (touched_tick m t j a)
    (on_task m (first_read t j a (after_reading m (bank_of (named_block a)) Load)))

-- an attempt is lost and counted: registers as kept, nothing touched, next the command after BEGIN
unfoldable pub loses_attempt : Own → Job → Noted Job
loses_attempt t j = noted (job_at (Transaction Between) j.begin 0) (clearing (restoring 8 (counted t lost)))

-- the version read again is the remembered one
unfoldable pub checked_by : Own → Job → Access → ℕ → Noted Job
checked_by t j (Get r b o) v = noted (goes_on j) (set_register t r v)
checked_by t j (Put b o r) v =
    noted (job (Transaction Between) j.value j.at j.begin j.pairs (next_of j.used)) (set_slot t b (j.used + 1))

unfoldable pub again_read : Own → Job → Access → ℕ → Read → Noted Job
again_read t j a v (Reads s) = noted (inner j (Again a v s)) t
again_read t j a v (Gives w) = if (w / 256 == remembered_at t (named_block a) / 256) (checked_by t j a v) (loses_attempt t j)
