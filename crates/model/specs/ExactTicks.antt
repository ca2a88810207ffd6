-- The exact ticks of an exchange: how many ticks of its own a finished one takes, by what it did in its steps.
use Rattle.std.specs.Prelude.{ℕ, suc, ◌+◌, ◌*◌, ◌<◌, ◌≤◌, Bool, true, false, not, ◌≡◌, List, [], ◌∷◌, eqb, length}
use Rattle.std.proofs.Math.Option.{some}
use Rattle.model.specs.Sheet.{sheet_of}
use Rattle.model.specs.Word.{Memory, same_word, cell_of}
use Rattle.model.specs.Exchange.{Step, start, test, load, look, fetch, fail, mark, install, commit, save, clean, clean_mark}
use Rattle.model.specs.Exchange.{Entry, Exchange, entry_at}
use Rattle.model.specs.Job.{Inner, between, first, copying, again, committing, Phase, idle, plain, reading, exchanging, transacting}
use Rattle.model.specs.Machine.{Machine, task_at, running_of}
use Rattle.model.specs.Start.{start_machine}
use Rattle.model.specs.Arguments.{Pair, swap_of}
use Rattle.model.specs.History.{Operation}
use Rattle.model.specs.Rates.{most_exchange, in_tick, is_task, one_if, sum_before, own_ticks, Starts, Ends, IsAt, NoneIn}

-- WHAT AN EXCHANGE DID
pub record Tally : Type 0 where
  -- a: the words that it tried to install
  pub tried : ℕ
  -- d: 1 if it stopped at a differing value
  pub differed : ℕ
  -- f: its fetches
  pub fetched : ℕ
  -- m: its marks on other tasks
  pub marked : ℕ
  -- b: 1 if an install failed
  pub failed : ℕ

abbrev pub tally : ℕ → ℕ → ℕ → ℕ → ℕ → Tally
tally a d f m b = record { tried = a; differed = d; fetched = f; marked = m; failed = b }

abbrev pub no_tally : Tally
no_tally = tally 0 0 0 0 0

-- THE TICKS that it takes
abbrev pub exact_ticks : Tally → ℕ
exact_ticks c = 3 + 6 * c.tried + 5 * c.differed + c.fetched + c.marked + c.failed

-- ONE STEP
-- a mark by task p on the task of that entry's init
abbrev pub marks_other : ℕ → Entry → Tally
marks_other p e = tally 0 0 0 (one_if (not (eqb e.init.task p))) 0

-- task p's step of exchange x, with that memory: a Save finds whether the value differs, an Install whether it fails
unfoldable pub tally_of : ℕ → Memory → Exchange → Step → Tally
unfolding same_word
tally_of p m x start = no_tally
tally_of p m x test = no_tally
tally_of p m x load = no_tally
tally_of p m x look = no_tally
tally_of p m x fetch = tally 0 0 1 0 0
tally_of p m x (save v) = tally 0 (one_if (not (eqb v (entry_at x x.i).old))) 0 0 0
tally_of p m x fail = no_tally
tally_of p m x mark = marks_other p (entry_at x x.i)
tally_of p m x install = tally 1 0 0 0 (one_if (not (same_word (cell_of m (entry_at x x.i).cell) (entry_at x x.i).init)))
tally_of p m x commit = no_tally
tally_of p m x (clean j yes?) = no_tally
tally_of p m x (clean_mark j yes?) = marks_other p (entry_at x j)

-- task p's statement in that phase
abbrev pub tally_inner : ℕ → Memory → Inner → Tally
tally_inner p m between = no_tally
tally_inner p m (first a r) = no_tally
tally_inner p m (copying a n) = no_tally
tally_inner p m (again a v r) = no_tally
tally_inner p m (committing x) = tally_of p m x x.step

abbrev pub tally_in : ℕ → Memory → Phase → Tally
tally_in p m idle = no_tally
tally_in p m plain = no_tally
tally_in p m (reading r w s) = no_tally
tally_in p m (exchanging r x) = tally_of p m x x.step
tally_in p m (transacting y s) = tally_inner p m s

abbrev pub tally_if : Bool → Tally → Tally
tally_if true c = c
tally_if false c = no_tally

-- what task p does in the statement of machine m's tick
abbrev pub step_tally : Machine → ℕ → Tally
step_tally m p = tally_if (is_task p (running_of m)) (tally_in p m.memory (task_at m.tasks p).job.phase)

-- ALL ITS STEPS
-- from tick a on and before tick n
abbrev pub tally_before : (ℕ → Tally) → ℕ → ℕ → Tally
tally_before f a n =
    tally (sum_before (λ u. (f u).tried) a n) (sum_before (λ u. (f u).differed) a n) (sum_before (λ u. (f u).fetched) a n)
    (sum_before (λ u. (f u).marked) a n) (sum_before (λ u. (f u).failed) a n)

-- by task p, from tick a to tick l
abbrev pub tallies : Machine → ℕ → ℕ → ℕ → Tally
tallies m p a l = tally_before (λ u. step_tally (in_tick m u) p) a (suc l)

-- AN EXCHANGE of k words took t ticks and did that
pub record TakesExactly (k : ℕ) (Yes : Type 0) (t : ℕ) (c : Tally) : Type 0 where
  pub exact : t ≡ exact_ticks c
  -- each word is tried, or the exchange stops there, or it is not come to
  pub words : c.tried + c.differed ≤ k
  pub stops : c.differed + c.failed ≤ 1
  pub fetches : c.fetched ≤ c.tried + c.differed
  pub marks : c.marked ≤ 2 * c.tried
  -- a yes has tried and installed all
  pub all : Yes → (c.tried ≡ k) × (c.differed ≡ 0) × (c.failed ≡ 0)
  -- what follows from these: the old bound; and a yes with no fetch and no mark
  pub most : t ≤ most_exchange k
  pub undisturbed : Yes → c.fetched ≡ 0 → c.marked ≡ 0 → t ≡ 6 * k + 3

-- of a run with a limit
pub record RunExactTicks (limit : ℕ) (m : Machine) : Type 0 where
  -- a SWAP
  pub swap : (a l : ℕ) (ps : List Pair) (o : Operation) → IsAt limit m a o → o.arguments ≡ swap_of ps → o.last ≡ some l
      → TakesExactly (length ps) (o.answers ≡ 1 ∷ []) (own_ticks m o.task a l) (tallies m o.task a l)
  -- the exchange of a COMMIT, from its Start to the first tick from there on in which its task ends one
  pub commit : (p a l k : ℕ) → l < limit → Starts m p a k → a ≤ l → (e : Ends m p l) → NoneIn (Ends m p) a l
      → TakesExactly k (e.yes? ≡ true) (own_ticks m p a l) (tallies m p a l)

-- of a sheet's run
abbrev pub ExactTicks : List ℕ → ℕ → Type 0
ExactTicks sheet limit = RunExactTicks limit (start_machine (sheet_of sheet))
