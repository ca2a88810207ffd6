-- Every statement is one of the moves: a walk over the commands and phases.
use Prim.Native.Nat.{ℕ, suc}
use mathlib.Core.Bool.{Bool, true, false, ◌||◌, true≢false}
use mathlib.Core.Path.{◌≡◌, refl}
use mathlib.Core.List.{List, [], ◌∷◌}
use mathlib.Core.Option.{none, some}
use lib.Dec.{eqb}
use Rattle.model.specs.Lists.{replace}
use Rattle.model.specs.Command.{Access, GET, PUT, READ, PAIR, SWAP, BEGIN, access, COMMIT, BodyCommand, LOAD, ADD, outside, inside}
use Rattle.model.specs.Word.{Memory, Reading, Read, reads, gives, read_tick}
use Rattle.model.specs.Exchange.{Entry, Exchange, Exchanged, goes, ends, exchange_tick, said_yes}
use Rattle.model.specs.Job.{Touched, untouched, remembered, copied, Transaction, Inner, between, first, copying, again, committing}
use Rattle.model.specs.Job.{Phase, idle, plain, reading, exchanging, transacting, Task, rest, done_by, Turn, swap_answered, turn}
use Rattle.model.specs.Transaction.{bank, block_of, version_of, remembered_of, touched_of, nothing?, spent?}
use Rattle.model.specs.Transaction.{first_read, copy_by, copy_tick, access_tick, check_by, again_read, command_tick}
use Rattle.model.specs.Transaction.{transaction_tick, commit_command_by, committing_by, stays, committed_if}
use Rattle.model.specs.Machine.{answer, read_by, swap_by, plain_tick, statement, swap_committed_if}
use Rattle.model.specs.Arguments.{Pair, swap_of}
use Rattle.model.proofs.History.Exchange.{says_yes, said_now, yes-once, pairs_of, Follows, follows}
use Rattle.model.proofs.History.Moves.{given, inner_committed, has_committed, Settling, settles_nothing, read_settles, swap_settles}
use Rattle.model.proofs.History.Moves.{transaction_settles, command_settles, inner_settles, settling, Moves, stays_outside, begun, goes_on}
use Rattle.model.proofs.History.Moves.{gets, loses, read_ends, swap_commits, swap_ends, swap_commits_and_ends, swap_rejected, transaction_commits}
use Rattle.model.proofs.History.Moves.{transaction_ends, transaction_commits_and_ends, nothing_touched, ends_spent, MovesBy}

-- a command is done: its task is outside
done-outside : (l : List BodyCommand) (t : Task) (rs : List ℕ) (ps : List Entry) (cs : List ℕ) → given (done_by l t rs ps cs).job.phase ≡ none
unfolding done_by
done-outside [] t rs ps cs = refl
done-outside (c ∷ l) t rs ps cs = refl

module _ (p : ℕ) (m : Memory) (t : Task) where
  -- OUTSIDE
  read-moves : (r w : ℕ) (s : Reading) (o : Read)
      → MovesBy (reading r w s) (read_by m t r w o).did (read_settles w o) (read_by m t r w o).task.job.phase
  unfolding read_by
  read-moves r w s (reads s') = goes_on
  read-moves r w s (gives v) =
      rw (done-outside (rest t.job.commands) t (replace t.job.registers r v) t.job.pairs t.copies) (read_ends v)

  plain-moves : t.job.phase ≡ plain → (l : List BodyCommand)
      → Moves none false (plain_tick p m t l).did settles_nothing (given (plain_tick p m t l).task.job.phase)
      (has_committed (plain_tick p m t l).task.job.phase)
  unfolding plain_tick read_tick read_by exchange_tick swap_by
  plain-moves e [] = rw e stays_outside
  plain-moves e (LOAD r v ∷ l) =
      rw (done-outside (rest t.job.commands) t (replace t.job.registers r v) t.job.pairs t.copies) stays_outside
  plain-moves e (ADD r q ∷ l) = rw (done-outside (rest t.job.commands) t) stays_outside
  plain-moves e (outside (READ r w) ∷ l) = begun
  plain-moves e (outside (PAIR w o n) ∷ l) = rw (done-outside (rest t.job.commands) t) stays_outside
  plain-moves e (outside (SWAP r) ∷ l) = begun
  plain-moves e (outside BEGIN ∷ l) = begun
  plain-moves e (inside c ∷ l) = rw e stays_outside

  -- IN AN EXCHANGE, by what it has said before and what it says now
  swap-goes : (ps : List Pair) (m' : Memory) (x' : Exchange) (said says : Bool) → pairs_of x' ≡ ps → said_yes x'.step ≡ (said || says)
      → (says ≡ true → said ≡ false)
      → Moves (some (swap_of ps)) said (swap_committed_if says) (swap_settles says ps (goes m' x')) (some (swap_of (pairs_of x')))
      (said_yes x'.step)
  swap-goes ps m' x' false false e y n = rw (e, y) goes_on
  swap-goes ps m' x' true false e y n = rw (e, y) goes_on
  swap-goes ps m' x' false true e y n = rw (e, y) swap_commits
  swap-goes ps m' x' true true e y n = absurd (true≢false (n refl))

  swap_ends_lem : (ps : List Pair) (m' : Memory) (c said says yes? : Bool) → yes? ≡ (said || says) → (says ≡ true → said ≡ false)
      → Moves (some (swap_of ps)) said (swap_answered yes?) (swap_settles says ps (ends m' yes?)) none c
  swap_ends_lem ps m' c false false yes? y n = rw y swap_rejected
  swap_ends_lem ps m' c true false yes? y n = rw y swap_ends
  swap_ends_lem ps m' c false true yes? y n = rw y swap_commits_and_ends
  swap_ends_lem ps m' c true true yes? y n = absurd (true≢false (n refl))

  swap-moves : (r : ℕ) (x : Exchange) (o : Exchanged) → Follows p m x x.step o
      → MovesBy (exchanging r x) (swap_by t r x o).did (swap_settles (says_yes p m x.step) (pairs_of x) o)
      (swap_by t r x o).task.job.phase
  unfolding swap_by
  swap-moves r x (goes m' x') g =
      rw (said_now p m x x' g) (swap-goes (pairs_of x) m' x' (said_yes x.step) (says_yes p m x.step) g.pairs g.yes (yes-once p m x.step))
  swap-moves r x (ends m' yes?) y =
      rw (done-outside (rest t.job.commands) t (replace t.job.registers r (answer yes?)) [] t.copies)
      (swap_ends_lem (pairs_of x) m' _ (said_yes x.step) (says_yes p m x.step) yes? y (yes-once p m x.step))

  -- IN A TRANSACTION
  module _ (x : Transaction) where
    abbrev Within : Bool → Settling → Turn → Type 0
    Within c s v = Moves (given (transacting x between)) c v.did s (given v.task.job.phase) (has_committed v.task.job.phase)

    first-moves : (a : Access) (o : Read) → Within false settles_nothing (first_read m t x a o)
    unfolding first_read
    first-moves a (reads r) = goes_on
    first-moves a (gives v) = goes_on

    copy_moves : (b : Bool) (m' : Memory) (a : Access) (n : ℕ) → Within false settles_nothing (copy_by b m' t x a n)
    unfolding copy_by
    copy_moves true m' a n = goes_on
    copy_moves false m' a n = goes_on

    access-moves : (a : Access) (b : Touched) → Within false settles_nothing (access_tick m t x a b)
    unfolding access_tick
    access-moves a untouched = goes_on
    access-moves (GET r b o) (remembered v) = goes_on
    access-moves (GET r b o) (copied v k) = goes_on
    access-moves (PUT b o r) (remembered v) = goes_on
    access-moves (PUT b o r) (copied v k) = goes_on

    check-moves : (b : Bool) (a : Access) (v : ℕ) → Within false settles_nothing (check_by b m t x a v)
    unfolding check_by
    check-moves true (GET r b o) v = gets v
    check-moves true (PUT b o r) v = goes_on
    check-moves false a v = loses

    again-moves : (a : Access) (v : ℕ) (o : Read) → Within false settles_nothing (again_read m t x a v o)
    unfolding again_read
    again-moves a v (reads r) = goes_on
    again-moves a v (gives w) = check-moves (eqb (version_of w) (version_of (remembered_of (touched_of x (block_of a))))) a v

    commit-moves : (n s : Bool) → Within false (transaction_settles n x) (commit_command_by n s m t x)
    unfolding commit_command_by
    commit-moves true s = rw (done-outside (rest t.job.commands) t t.job.registers [] t.copies) nothing_touched
    commit-moves false true = ends_spent
    commit-moves false false = goes_on

    command-moves : t.job.phase ≡ transacting x between → (l : List BodyCommand) → Within false (command_settles x l) (command_tick m t x l)
    unfolding command_tick
    command-moves e [] = rw e goes_on
    command-moves e (LOAD r v ∷ l) = goes_on
    command-moves e (ADD r q ∷ l) = goes_on
    command-moves e (inside (access a) ∷ l) = access-moves a (touched_of x (block_of a))
    command-moves e (inside COMMIT ∷ l) = commit-moves (nothing? x.blocks) (spent? x.blocks)
    command-moves e (outside c ∷ l) = rw e goes_on

    -- the exchange of COMMIT
    committing-goes : (e' : Exchange) (said says : Bool) → said_yes e'.step ≡ (said || says) → (says ≡ true → said ≡ false)
        → Within said (transaction_settles says x) (turn m (stays t x (committing e')) (committed_if says))
    committing-goes e' false false y n = rw y goes_on
    committing-goes e' true false y n = rw y goes_on
    committing-goes e' false true y n = rw y transaction_commits
    committing-goes e' true true y n = absurd (true≢false (n refl))

    committing-ends : (e : Exchange) (m' : Memory) (said says yes? : Bool) → yes? ≡ (said || says) → (says ≡ true → said ≡ false)
        → Within said (transaction_settles says x) (committing_by t x e (ends m' yes?))
    unfolding committing_by
    committing-ends e m' false false yes? y n = rw y loses
    committing-ends e m' true false yes? y n = rw (y, done-outside (rest t.job.commands) t) transaction_ends
    committing-ends e m' false true yes? y n = rw (y, done-outside (rest t.job.commands) t) transaction_commits_and_ends
    committing-ends e m' true true yes? y n = absurd (true≢false (n refl))

    committing-moves : (e : Exchange) (o : Exchanged) → Follows p m e e.step o
        → Within (said_yes e.step) (transaction_settles (says_yes p m e.step) x) (committing_by t x e o)
    unfolding committing_by
    committing-moves e (goes m' e') g =
        rw (said_now p m e e' g) (committing-goes e' (said_yes e.step) (says_yes p m e.step) g.yes (yes-once p m e.step))
    committing-moves e (ends m' yes?) y = committing-ends e m' (said_yes e.step) (says_yes p m e.step) yes? y (yes-once p m e.step)

    inner-moves : (s : Inner) → t.job.phase ≡ transacting x s
        → Within (inner_committed s) (inner_settles p m t.job.commands x s) (transaction_tick p m t x s)
    unfolding transaction_tick copy_tick
    inner-moves between e = command-moves e t.job.commands
    inner-moves (first a r) e = first-moves a (read_tick m (bank (block_of a)) r)
    inner-moves (copying a n) e = copy_moves (eqb (suc n) 8) _ a n
    inner-moves (again a v r) e = again-moves a v (read_tick m (bank (block_of a)) r)
    inner-moves (committing c) e = committing-moves c (exchange_tick p m c c.step) (follows p m c c.step)

  pub moves : (f : Phase) → t.job.phase ≡ f
      → MovesBy f (statement p m t f).did (settling p m t.job.commands f) (statement p m t f).task.job.phase
  unfolding settling statement
  moves idle e = rw e stays_outside
  moves plain e = plain-moves e t.job.commands
  moves (reading r w s) e = read-moves r w s (read_tick m w s)
  moves (exchanging r x) e = swap-moves r x (exchange_tick p m x x.step) (follows p m x x.step)
  moves (transacting x s) e = inner-moves x s e
