-- What a tick means for the running task's operation: what its statement did, what it settles, and where the task stands before and after it.
use Prim.Native.Nat.{ℕ}
use mathlib.Core.Bool.{Bool, true, false}
use mathlib.Core.List.{List, [], ◌∷◌}
use mathlib.Core.Option.{Option, none, some}
use Rattle.model.specs.Command.{access, COMMIT, BodyCommand, LOAD, ADD, outside, inside}
use Rattle.model.specs.Word.{Memory, Read, reads, gives, read_tick}
use Rattle.model.specs.Exchange.{Exchanged, goes, ends, exchange_tick, said_yes}
use Rattle.model.specs.Job.{Transaction, Inner, between, first, copying, again, committing}
use Rattle.model.specs.Job.{Phase, idle, plain, reading, exchanging, transacting}
use Rattle.model.specs.Job.{Deed, nothing_done, began, read_gave, swap_committed, swap_answered, get_gave, attempt_lost}
use Rattle.model.specs.Job.{transaction_committed, transaction_ended, ended_untouched, ended_spent}
use Rattle.model.specs.Transaction.{nothing?}
use Rattle.model.specs.Arguments.{Pair, Arguments, read_of, swap_of, transaction_of, until_commit}
use Rattle.model.proofs.History.Exchange.{says_yes, pairs_of}

-- WHERE A TASK STANDS: the arguments of the operation that it is in, and whether that has committed
abbrev pub given : Phase → Option Arguments
given idle = none
given plain = none
given (reading r w s) = some (read_of w)
given (exchanging r x) = some (swap_of (pairs_of x))
given (transacting x s) = some (transaction_of x.kept (until_commit x.commands))

abbrev pub inner_committed : Inner → Bool
inner_committed between = false
inner_committed (first a r) = false
inner_committed (copying a n) = false
inner_committed (again a v r) = false
inner_committed (committing e) = said_yes e.step

abbrev pub has_committed : Phase → Bool
has_committed idle = false
has_committed plain = false
has_committed (reading r w s) = false
has_committed (exchanging r x) = said_yes x.step
has_committed (transacting x s) = inner_committed s

-- WHAT A TICK SETTLES: nothing; a READ gives a value of its word; an exchange commits or says no; a transaction commits
pub data Settling : Type 0 where
  settles_nothing : Settling
  settles_read : ℕ → ℕ → Settling
  settles_yes : List Pair → Settling
  settles_no : List Pair → Settling
  settles_transaction : List ℕ → List BodyCommand → Settling

abbrev pub read_settles : ℕ → Read → Settling
read_settles w (reads s) = settles_nothing
read_settles w (gives v) = settles_read w v

abbrev pub end_settles : List Pair → Exchanged → Settling
end_settles ps (goes m x) = settles_nothing
end_settles ps (ends m true) = settles_nothing
end_settles ps (ends m false) = settles_no ps

abbrev pub swap_settles : Bool → List Pair → Exchanged → Settling
swap_settles true ps o = settles_yes ps
swap_settles false ps o = end_settles ps o

abbrev pub transaction_settles : Bool → Transaction → Settling
transaction_settles true x = settles_transaction x.kept (until_commit x.commands)
transaction_settles false x = settles_nothing

abbrev pub command_settles : Transaction → List BodyCommand → Settling
command_settles x [] = settles_nothing
command_settles x (inside COMMIT ∷ l) = transaction_settles (nothing? x.blocks) x
command_settles x (LOAD r v ∷ l) = settles_nothing
command_settles x (ADD r q ∷ l) = settles_nothing
command_settles x (inside (access a) ∷ l) = settles_nothing
command_settles x (outside c ∷ l) = settles_nothing

abbrev pub inner_settles : ℕ → Memory → List BodyCommand → Transaction → Inner → Settling
inner_settles p m l x between = command_settles x l
inner_settles p m l x (first a r) = settles_nothing
inner_settles p m l x (copying a n) = settles_nothing
inner_settles p m l x (again a v r) = settles_nothing
inner_settles p m l x (committing e) = transaction_settles (says_yes p m e.step) x

-- the statement of task p, by the shared memory and the task's commands before it
unfoldable pub settling : ℕ → Memory → List BodyCommand → Phase → Settling
settling p m l idle = settles_nothing
settling p m l plain = settles_nothing
settling p m l (reading r w s) = read_settles w (read_tick m w s)
settling p m l (exchanging r x) = swap_settles (says_yes p m x.step) (pairs_of x) (exchange_tick p m x x.step)
settling p m l (transacting x s) = inner_settles p m l x s

-- BEFORE AND AFTER A TICK: the arguments and the commit, with what its statement did and what it settles between them
pub data Moves : Option Arguments → Bool → Deed → Settling → Option Arguments → Bool → Type 0 where
  stays_outside : {b c : Bool} → Moves none b nothing_done settles_nothing none c
  begun : {b : Bool} {a : Arguments} → Moves none b (began a) settles_nothing (some a) false
  goes_on : {b : Bool} {a : Arguments} → Moves (some a) b nothing_done settles_nothing (some a) b
  gets : {rs : List ℕ} {l : List BodyCommand} (v : ℕ)
      → Moves (some (transaction_of rs l)) false (get_gave v) settles_nothing (some (transaction_of rs l)) false
  loses : {rs : List ℕ} {l : List BodyCommand}
      → Moves (some (transaction_of rs l)) false attempt_lost settles_nothing (some (transaction_of rs l)) false
  read_ends : {w : ℕ} {c : Bool} (v : ℕ) → Moves (some (read_of w)) false (read_gave v) (settles_read w v) none c
  swap_commits : {ps : List Pair} → Moves (some (swap_of ps)) false swap_committed (settles_yes ps) (some (swap_of ps)) true
  swap_ends : {ps : List Pair} {c : Bool} → Moves (some (swap_of ps)) true (swap_answered true) settles_nothing none c
  swap_commits_and_ends : {ps : List Pair} {c : Bool} → Moves (some (swap_of ps)) false (swap_answered true) (settles_yes ps) none c
  swap_rejected : {ps : List Pair} {c : Bool} → Moves (some (swap_of ps)) false (swap_answered false) (settles_no ps) none c
  transaction_commits : {rs : List ℕ} {l : List BodyCommand}
      → Moves (some (transaction_of rs l)) false transaction_committed (settles_transaction rs l) (some (transaction_of rs l)) true
  transaction_ends : {rs : List ℕ} {l : List BodyCommand} {c : Bool}
      → Moves (some (transaction_of rs l)) true transaction_ended settles_nothing none c
  transaction_commits_and_ends : {rs : List ℕ} {l : List BodyCommand} {c : Bool}
      → Moves (some (transaction_of rs l)) false transaction_ended (settles_transaction rs l) none c
  nothing_touched : {rs : List ℕ} {l : List BodyCommand} {c : Bool}
      → Moves (some (transaction_of rs l)) false ended_untouched (settles_transaction rs l) none c
  ends_spent : {rs : List ℕ} {l : List BodyCommand} {c : Bool}
      → Moves (some (transaction_of rs l)) false ended_spent settles_nothing none c

abbrev pub MovesBy : Phase → Deed → Settling → Phase → Type 0
MovesBy f d s f' = Moves (given f) (has_committed f) d s (given f') (has_committed f')
