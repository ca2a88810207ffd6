-- The rates: how many ticks of its own a READ, a SWAP, the reading of a bank word and the exchange of a COMMIT take in a run.
use Rattle.std.specs.Prelude.{ℕ, zero, suc, ◌+◌, ◌*◌, ◌<◌, ◌≤◌, Bool, true, false, ◌≡◌, ◌⊎◌, List, ◌∷◌, eqb, leb, length}
use Rattle.std.proofs.Math.Option.{none, some}
use Rattle.model.specs.Sheet.{sheet_of}
use Rattle.model.specs.Command.{Access, access, BodyCommand, inside}
use Rattle.model.specs.Word.{Memory, Reading, loading, gives, read_tick}
use Rattle.model.specs.Exchange.{Exchange, start, ends, exchange_tick}
use Rattle.model.specs.Job.{untouched, Transaction, Inner, between, first, again, committing, transacting}
use Rattle.model.specs.Transaction.{bank, block_of, touched_of}
use Rattle.model.specs.Machine.{Machine, task_at, Running, nobody, running, running_of, enter, run}
use Rattle.model.specs.Start.{start_machine}
use Rattle.model.specs.Arguments.{Pair, read_of, swap_of}
use Rattle.model.specs.History.{Operation, operation_at, history_of}

-- THE BOUNDS, in ticks of its own
-- a reading loads and looks, and may have to fetch
abbrev pub least_read : ℕ
least_read = 2

abbrev pub most_read : ℕ
most_read = 3

-- an exchange of k words
abbrev pub most_exchange : ℕ → ℕ
most_exchange k = 9 * k + 4

-- TICKS OF ITS OWN
-- the machine in tick u: what the run with limit u leaves, tick u's releases having arrived
unfoldable pub in_tick : Machine → ℕ → Machine
unfolding run enter
in_tick m u = enter (run u m)

-- who does the statement of tick u
abbrev pub running_in : Machine → ℕ → Running
running_in m u = running_of (in_tick m u)

abbrev pub is_task : ℕ → Running → Bool
is_task p nobody = false
is_task p (running q) = eqb q p

abbrev pub one_if : Bool → ℕ
one_if true = 1
one_if false = 0

abbrev pub only_if : Bool → ℕ → ℕ
only_if true v = v
only_if false v = 0

-- a sum over the ticks from tick a on and before tick n
unfoldable pub sum_before : (ℕ → ℕ) → ℕ → ℕ → ℕ
sum_before f a zero = 0
sum_before f a (suc n) = sum_before f a n + only_if (leb a n) (f n)

-- of these ticks, those in which task p does the statement
unfoldable pub own_before : (ℕ → Running) → ℕ → ℕ → ℕ → ℕ
unfolding sum_before
own_before who p a n = sum_before (λ u. one_if (is_task p (who u))) a n

-- from tick a to tick l
abbrev pub own_ticks : Machine → ℕ → ℕ → ℕ → ℕ
own_ticks m p a l = own_before (running_in m) p a (suc l)

-- THE EXCHANGE OF A TRANSACTION: task p does a statement of one in tick u
pub record Committing (m : Machine) (p u : ℕ) : Type 0 where
  pub runs : running_in m u ≡ running p
  pub transaction : Transaction
  pub exchange : Exchange
  pub phase : (task_at (in_tick m u).tasks p).job.phase ≡ transacting transaction (committing exchange)

-- that statement is the Start of an exchange of k entries
pub record Starts (m : Machine) (p u k : ℕ) : Type 0 where
  pub does : Committing m p u
  pub start : does.exchange.step ≡ start
  pub entries : length does.exchange.entries ≡ k

-- that statement ends it, yes or no
pub record Ends (m : Machine) (p u : ℕ) : Type 0 where
  pub does : Committing m p u
  pub memory : Memory
  pub yes? : Bool
  pub ends : exchange_tick p (in_tick m u).memory does.exchange does.exchange.step ≡ ends memory yes?

-- THE READING OF A BANK WORD: a block's first GET or PUT reads it, GET and the first PUT read it again
-- the inner step of transaction x at those commands does that step of a reading for that GET or PUT
pub data BankStep (x : Transaction) (l : List BodyCommand) : Inner → Access → Reading → Type 0 where
  first_load : (a : Access) (k : List BodyCommand) → l ≡ inside (access a) ∷ k → touched_of x (block_of a) ≡ untouched
      → BankStep x l between a loading
  first_reading : (a : Access) (r : Reading) → BankStep x l (first a r) a r
  second_reading : (a : Access) (v : ℕ) (r : Reading) → BankStep x l (again a v r) a r

-- task p does a step of one in tick u
pub record ReadsBank (m : Machine) (p u : ℕ) : Type 0 where
  pub runs : running_in m u ≡ running p
  pub transaction : Transaction
  pub inner : Inner
  pub phase : (task_at (in_tick m u).tasks p).job.phase ≡ transacting transaction inner
  pub access : Access
  pub step : Reading
  pub does : BankStep transaction (task_at (in_tick m u).tasks p).job.commands inner access step

-- that step loads the bank word
pub record Loads (m : Machine) (p u : ℕ) : Type 0 where
  pub reads : ReadsBank m p u
  pub loads : reads.step ≡ loading

-- that step gives the value
pub record Gives (m : Machine) (p u : ℕ) : Type 0 where
  pub reads : ReadsBank m p u
  pub value : ℕ
  pub gives : read_tick (in_tick m u).memory (bank (block_of reads.access)) reads.step ≡ gives value

-- THE RATES of a run with a limit
-- operation a of the run is o
abbrev pub IsAt : ℕ → Machine → ℕ → Operation → Type 0
IsAt limit m a o = operation_at (history_of limit m) a ≡ some o

-- none from tick a on and before tick n
abbrev pub NoneIn : (ℕ → Type 0) → ℕ → ℕ → Type 0
NoneIn P a n = (u : ℕ) → a ≤ u → u < n → P u → ⊥

-- a reading that ends takes 2 ticks or 3
abbrev pub ReadTakes : ℕ → Type 0
ReadTakes t = (t ≡ least_read) ⊎ (t ≡ most_read)

-- the ticks that task p has done of its own, from tick a on, when the run stops
abbrev pub own_at_end : ℕ → Machine → ℕ → ℕ → ℕ
own_at_end limit m p a = own_before (running_in m) p a (run limit m).now

-- One that the limit cuts short has done fewer, so that so many ticks of its own are always enough.
pub record RunRates (limit : ℕ) (m : Machine) : Type 0 where
  -- the ticks that a task has used, as its T line says, are its own from tick 0 on
  pub used : (p : ℕ) → (task_at (run limit m).tasks p).counts.ticks ≡ own_at_end limit m p 0
  -- a READ
  pub read : (a w l : ℕ) (o : Operation) → IsAt limit m a o → o.arguments ≡ read_of w → o.last ≡ some l
      → ReadTakes (own_ticks m o.task a l)
  pub read_cut_short : (a w : ℕ) (o : Operation) → IsAt limit m a o → o.arguments ≡ read_of w → o.last ≡ none
      → own_at_end limit m o.task a < most_read
  -- a SWAP
  pub swap : (a l : ℕ) (ps : List Pair) (o : Operation) → IsAt limit m a o → o.arguments ≡ swap_of ps → o.last ≡ some l
      → own_ticks m o.task a l ≤ most_exchange (length ps)
  pub swap_cut_short : (a : ℕ) (ps : List Pair) (o : Operation) → IsAt limit m a o → o.arguments ≡ swap_of ps → o.last ≡ none
      → own_at_end limit m o.task a < most_exchange (length ps)
  -- the reading of a bank word, from its Load to the first tick from there on in which its task gives the value of one
  pub bank_read : (p a l : ℕ) → l < limit → Loads m p a → a ≤ l → Gives m p l → NoneIn (Gives m p) a l
      → ReadTakes (own_ticks m p a l)
  pub bank_read_cut_short : (p a n : ℕ) → n ≤ limit → Loads m p a → a < n → NoneIn (Gives m p) a n
      → own_before (running_in m) p a n < most_read
  -- the exchange of a COMMIT, from its Start to the first tick from there on in which its task ends one
  pub commit : (p a l k : ℕ) → l < limit → Starts m p a k → a ≤ l → Ends m p l → NoneIn (Ends m p) a l
      → own_ticks m p a l ≤ most_exchange k
  pub commit_cut_short : (p a n k : ℕ) → n ≤ limit → Starts m p a k → a < n → NoneIn (Ends m p) a n
      → own_before (running_in m) p a n < most_exchange k

-- of a sheet's run
abbrev pub Rates : List ℕ → ℕ → Type 0
Rates sheet limit = RunRates limit (start_machine (sheet_of sheet))
