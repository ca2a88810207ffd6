-- Transactions: BEGIN, GET, PUT, COMMIT with all their ticks, the stale restart, gather, spent, old stores taken back.
use Rattle.std.specs.Prelude.{ℕ, suc, ◌+◌, ◌*◌, ◌/◌, ◌%◌, Bool, true, false, ◌||◌, List, [], ◌∷◌, eqb, replicate}
use Rattle.model.specs.Ceilings.{max_words, max_blocks, block_values, last_version, value_range}
use Rattle.model.specs.Lists.{at, replace}
use Rattle.model.specs.Command.{Access, GET, PUT, Block, Inside, access, COMMIT, BodyCommand, LOAD, ADD, outside, inside}
use Rattle.model.specs.Word.{Memory, current_of, stored, set_stored, loading, Read, reads, gives, read_tick}
use Rattle.model.specs.Exchange.{Entry, entry, Exchange, exchange_of, commit_said_yes, Exchanged, goes, ends, exchange_tick}
use Rattle.model.specs.Job.{Touched, untouched, remembered, copied, Transaction, Inner, between, first, copying, again, committing}
use Rattle.model.specs.Job.{transacting, job, Task, with_job, rest, done, done_by, ended, Deed, nothing_done, get_gave}
use Rattle.model.specs.Job.{transaction_committed, transaction_ended, ended_untouched, ended_spent, Turn, turn, loses_attempt}

-- the bank word of block b is the cell after the words' cells
abbrev pub bank : ℕ → ℕ
bank b = max_words + b

-- a bank word holds version × 256 + store number
abbrev pub bank_value : ℕ → ℕ → ℕ
bank_value version store = version * 256 + store

abbrev pub version_of : ℕ → ℕ
version_of v = v / 256

abbrev pub store_of : ℕ → ℕ
store_of v = v % 256

-- block b, by its bank word's current value
abbrev pub block_in : Memory → ℕ → Block
block_in m b = record { version = version_of (current_of m (bank b)); values = at [] m.stores (store_of (current_of m (bank b))) }

abbrev pub block_of : Access → ℕ
block_of (GET r b o) = b
block_of (PUT b o r) = b

abbrev pub remembered_of : Touched → ℕ
remembered_of untouched = 0
remembered_of (remembered v) = v
remembered_of (copied v k) = v

abbrev pub touched_of : Transaction → ℕ → Touched
touched_of x b = at untouched x.blocks b

-- nothing touched
abbrev pub fresh_transaction : List ℕ → List BodyCommand → Transaction
fresh_transaction kept l = record { kept = kept; commands = l; blocks = replicate max_blocks untouched; used = 0 }

abbrev pub touch : Transaction → ℕ → Touched → ℕ → Transaction
touch x b s n = record { kept = x.kept; commands = x.commands; blocks = replace x.blocks b s; used = n }

-- the task in its transaction, at that command with those registers; no PAIRs wait there
abbrev pub within : Task → List BodyCommand → List ℕ → Transaction → Inner → Task
within t l rs x s = with_job t (job (transacting x s) l rs [])

abbrev pub stays : Task → Transaction → Inner → Task
stays t x s = within t t.job.commands t.job.registers x s

abbrev pub goes_on : Task → List ℕ → Transaction → Task
goes_on t rs x = within t (rest t.job.commands) rs x between

-- registers as kept, nothing touched, next the command after BEGIN
abbrev pub restarted : Task → Transaction → Task
restarted t x = within t x.commands x.kept (fresh_transaction x.kept x.commands) between

-- LOAD and ADD, the same inside and outside a transaction
abbrev pub loaded : List ℕ → ℕ → ℕ → List ℕ
loaded rs r v = replace rs r v

abbrev pub added : List ℕ → ℕ → ℕ → List ℕ
added rs r q = replace rs r ((at 0 rs r + at 0 rs q) % value_range)

-- GET and PUT, by what the block is so far
unfoldable pub first_read : Memory → Task → Transaction → Access → Read → Turn
unfolding replace
first_read m t x a (reads r) = turn m (stays t x (first a r)) nothing_done
first_read m t x a (gives v) = turn m (stays t (touch x (block_of a) (remembered v) x.used) between) nothing_done

-- value n goes into the next copy store
unfoldable pub copy_by : Bool → Memory → Task → Transaction → Access → ℕ → Turn
copy_by true m t x a n = turn m (stays t x (again a 0 loading)) nothing_done
copy_by false m t x a n = turn m (stays t x (copying a (suc n))) nothing_done

unfoldable pub copy_tick : Memory → Task → Transaction → Access → ℕ → Turn
unfolding at replace copy_by
copy_tick m t x a n =
    let v : ℕ = stored m.stores (store_of (remembered_of (touched_of x (block_of a)))) n in
    copy_by (eqb (suc n) block_values) (set_stored m (at 0 t.copies x.used) n v) t x a n

-- GET has fetched the value, from that store
abbrev pub fetched : Memory → Task → Transaction → Access → ℕ → ℕ → Turn
fetched m t x a s o = turn m (stays t x (again a (stored m.stores s o) loading)) nothing_done

unfoldable pub access_tick : Memory → Task → Transaction → Access → Touched → Turn
unfolding at replace read_tick first_read copy_tick
access_tick m t x a untouched = first_read m t x a (read_tick m (bank (block_of a)) loading)
access_tick m t x (GET r b o) (remembered v) = fetched m t x (GET r b o) (store_of v) o
access_tick m t x (GET r b o) (copied v k) = fetched m t x (GET r b o) (at 0 t.copies k) o
access_tick m t x (PUT b o r) (remembered v) = copy_tick m t x (PUT b o r) 0
access_tick m t x (PUT b o r) (copied v k) =
    turn (set_stored m (at 0 t.copies k) o (at 0 t.job.registers r)) (goes_on t t.job.registers x) nothing_done

-- the block PUT first has its copy: the next slot
abbrev pub put_first : Transaction → ℕ → Transaction
put_first x b = touch x b (copied (remembered_of (touched_of x b)) x.used) (suc x.used)

-- the version read again is the remembered one; with a stale version the attempt is lost
unfoldable pub check_by : Bool → Memory → Task → Transaction → Access → ℕ → Turn
unfolding at replace
check_by true m t x (GET r b o) v = turn m (goes_on t (loaded t.job.registers r v) x) (get_gave v)
check_by true m t x (PUT b o r) v = turn m (stays t (put_first x b) between) nothing_done
check_by false m t x a v = loses_attempt m (restarted t x)

unfoldable pub again_read : Memory → Task → Transaction → Access → ℕ → Read → Turn
unfolding at check_by
again_read m t x a v (reads r) = turn m (stays t x (again a v r)) nothing_done
again_read m t x a v (gives w) = check_by (eqb (version_of w) (version_of (remembered_of (touched_of x (block_of a))))) m t x a v

-- COMMIT
unfoldable pub nothing? : List Touched → Bool
nothing? [] = true
nothing? (untouched ∷ l) = nothing? l
nothing? (remembered v ∷ l) = false
nothing? (copied v k ∷ l) = false

-- how many blocks were touched
unfoldable pub touched_count : List Touched → ℕ
touched_count [] = 0
touched_count (untouched ∷ l) = touched_count l
touched_count (remembered v ∷ l) = suc (touched_count l)
touched_count (copied v k ∷ l) = suc (touched_count l)

-- a PUT block at the last version
unfoldable pub spent? : List Touched → Bool
spent? [] = false
spent? (untouched ∷ l) = spent? l
spent? (remembered v ∷ l) = spent? l
spent? (copied v k ∷ l) = eqb (version_of v) last_version || spent? l

-- the touched bank words by rising number: unchanged where only read, new store and version + 1 where PUT
unfoldable pub gather : List ℕ → ℕ → List Touched → List Entry
unfolding at
gather copies b [] = []
gather copies b (untouched ∷ l) = gather copies (suc b) l
gather copies b (remembered v ∷ l) = entry (bank b) v v ∷ gather copies (suc b) l
gather copies b (copied v k ∷ l) = entry (bank b) v (bank_value (suc (version_of v)) (at 0 copies k)) ∷ gather copies (suc b) l

-- the k-th used copy slot takes the replaced block's old store
unfoldable pub taken_back : List ℕ → List Touched → List ℕ
unfolding replace
taken_back copies [] = copies
taken_back copies (untouched ∷ l) = taken_back copies l
taken_back copies (remembered v ∷ l) = taken_back copies l
taken_back copies (copied v k ∷ l) = taken_back (replace copies k (store_of v)) l

-- by: nothing was touched; a PUT block is at the last version
unfoldable pub commit_command_by : Bool → Bool → Memory → Task → Transaction → Turn
unfolding done_by gather
commit_command_by true s m t x = turn m (done t t.job.registers [] t.copies) ended_untouched
commit_command_by false true m t x = turn m (ended t) ended_spent
commit_command_by false false m t x = turn m (stays t x (committing (exchange_of (gather t.copies 0 x.blocks)))) nothing_done

-- a tick of the exchange, whose Commit may have said yes in it
abbrev pub committed_if : Bool → Deed
committed_if true = transaction_committed
committed_if false = nothing_done

unfoldable pub committing_by : Task → Transaction → Exchange → Exchanged → Turn
unfolding done_by taken_back
committing_by t x e (goes m e') = turn m (stays t x (committing e')) (committed_if (commit_said_yes e e'))
committing_by t x e (ends m true) = turn m (done t t.job.registers [] (taken_back t.copies x.blocks)) transaction_ended
committing_by t x e (ends m false) = loses_attempt m (restarted t x)

-- a command that stands only inside a transaction
unfoldable pub inside_tick : Memory → Task → Transaction → Inside → Turn
unfolding at access_tick commit_command_by nothing? spent?
inside_tick m t x (access a) = access_tick m t x a (touched_of x (block_of a))
inside_tick m t x COMMIT = commit_command_by (nothing? x.blocks) (spent? x.blocks) m t x

-- the command at work, between its inner steps; the sheet check lets none of outside stand there
unfoldable pub command_tick : Memory → Task → Transaction → List BodyCommand → Turn
unfolding at replace inside_tick
command_tick m t x [] = turn m t nothing_done
command_tick m t x (LOAD r v ∷ l) = turn m (goes_on t (loaded t.job.registers r v) x) nothing_done
command_tick m t x (ADD r q ∷ l) = turn m (goes_on t (added t.job.registers r q) x) nothing_done
command_tick m t x (inside c ∷ l) = inside_tick m t x c
command_tick m t x (outside c ∷ l) = turn m t nothing_done

unfoldable pub transaction_tick : ℕ → Memory → Task → Transaction → Inner → Turn
unfolding command_tick read_tick first_read copy_tick again_read exchange_tick committing_by
transaction_tick p m t x between = command_tick m t x t.job.commands
transaction_tick p m t x (first a r) = first_read m t x a (read_tick m (bank (block_of a)) r)
transaction_tick p m t x (copying a n) = copy_tick m t x a n
transaction_tick p m t x (again a v r) = again_read m t x a v (read_tick m (bank (block_of a)) r)
transaction_tick p m t x (committing e) = committing_by t x e (exchange_tick p m e e.step)
