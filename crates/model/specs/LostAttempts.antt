-- Lost attempts: each task's count is that of the attempts which its operations lost, and an operation loses one in each tick in which its
-- transaction restarts, on a stale version or on a rejected commit.
use Rattle.std.specs.Prelude.{ℕ, zero, suc, ◌+◌, Bool, true, false, not, ◌&&◌, ◌≡◌, ◌≢◌, ◌⊎◌, List, [], ◌∷◌, ◌++◌, eqb, leb, length}
use Rattle.std.proofs.Math.Option.{Option, none, some}
use Rattle.model.specs.Sheet.{sheet_of}
use Rattle.model.specs.Job.{again, Phase, idle, plain, reading, exchanging, transacting}
use Rattle.model.specs.Transaction.{version_of, block_of, remembered_of, touched_of, nothing?}
use Rattle.model.specs.Machine.{Machine, task_at, run}
use Rattle.model.specs.Start.{start_machine}
use Rattle.model.specs.History.{Operation, history_of}
use Rattle.model.specs.Rates.{in_tick, one_if, only_if, sum_before, Ends, Gives, IsAt}

-- THE LOST ATTEMPTS OF A HISTORY
abbrev pub lost_by : ℕ → Option Operation → ℕ
lost_by p none = 0
lost_by p (some o) = only_if (eqb o.task p) (length o.lost)

-- those of task p's operations
unfoldable pub lost_of : ℕ → List (Option Operation) → ℕ
lost_of p [] = 0
lost_of p (o ∷ l) = lost_by p o + lost_of p l

-- A TRANSACTION RESTARTS
-- a task is in a transaction that has touched a block, or in one that has touched none
abbrev pub touched_some : Phase → Bool
touched_some idle = false
touched_some plain = false
touched_some (reading r w s) = false
touched_some (exchanging r x) = false
touched_some (transacting x s) = not (nothing? x.blocks)

abbrev pub touched_none : Phase → Bool
touched_none idle = false
touched_none plain = false
touched_none (reading r w s) = false
touched_none (exchanging r x) = false
touched_none (transacting x s) = nothing? x.blocks

abbrev pub phase_at : Machine → ℕ → Phase
phase_at m p = (task_at m.tasks p).job.phase

-- that of task p does in tick u: before the statement it had touched a block, and after it is in one that has touched none
abbrev pub restarts : Machine → ℕ → ℕ → Bool
restarts m p u = touched_some (phase_at (in_tick m u) p) && touched_none (phase_at (run (suc u) m) p)

-- Its causes in that tick. A stale version: the second reading of a bank word gives another version than the remembered one.
pub record Stale (m : Machine) (p u : ℕ) : Type 0 where
  pub gives : Gives m p u
  pub fetched : ℕ
  pub second : gives.reads.inner ≡ again gives.reads.access fetched gives.reads.step
  pub stale : version_of gives.value ≢ version_of (remembered_of (touched_of gives.reads.transaction (block_of gives.reads.access)))

-- a rejected commit: the exchange of COMMIT ends with no
pub record Rejected (m : Machine) (p u : ℕ) : Type 0 where
  pub ends : Ends m p u
  pub rejected : ends.yes? ≡ false

-- THE CLAIM
abbrev pub itself_if : Bool → ℕ → List ℕ
itself_if true t = t ∷ []
itself_if false t = []

-- the ticks from tick a on and before tick n of which a test holds, in order
unfoldable pub ticks_where : (ℕ → Bool) → ℕ → ℕ → List ℕ
ticks_where is? a zero = []
ticks_where is? a (suc n) = ticks_where is? a n ++ itself_if (leb a n && is? n) n

-- the tick after an operation's last, or the run's end
abbrev pub after_last : Option ℕ → ℕ → ℕ
after_last none end = end
after_last (some l) end = suc l

-- of a run with a limit
pub record RunLostAttempts (limit : ℕ) (m : Machine) : Type 0 where
  -- the lost attempts, as a task's T line says, are those of its operations: as many as the ticks in which its transactions restart
  pub history : (p : ℕ) → (task_at (run limit m).tasks p).counts.lost ≡ lost_of p (history_of limit m).began
  pub ticks : (p : ℕ) → (task_at (run limit m).tasks p).counts.lost ≡ sum_before (λ u. one_if (restarts m p u)) 0 (run limit m).now
  -- an operation loses an attempt in every such tick from its first to its last, and in no other
  pub each : (a : ℕ) (o : Operation) → IsAt limit m a o
      → o.lost ≡ ticks_where (restarts m o.task) a (after_last o.last (run limit m).now)
  -- a transaction restarts on a stale version and on a rejected commit, and for no other cause
  pub cause : (p u : ℕ) → restarts m p u ≡ true → Stale m p u ⊎ Rejected m p u
  pub stale : (p u : ℕ) → Stale m p u → restarts m p u ≡ true
  pub rejected : (p u : ℕ) → Rejected m p u → restarts m p u ≡ true

-- of a sheet's run
abbrev pub LostAttempts : List ℕ → ℕ → Type 0
LostAttempts sheet limit = RunLostAttempts limit (start_machine (sheet_of sheet))
