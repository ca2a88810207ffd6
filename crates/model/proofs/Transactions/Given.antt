-- What the transaction layer takes from the exchange layer: what a statement of task p in phase f does to the cells, and to what others have loaded.
use Prim.Native.Nat.{ℕ, ◌<◌}
use mathlib.Core.Path.{◌≡◌}
use mathlib.Core.Logic.{◌≢◌}
use mathlib.Core.List.{List}
use mathlib.Core.Option.{Option, none, some}
use lib.ListN.{length}
use Rattle.model.specs.Word.{Word, Memory, status_of, own, current, current_of, Reading, loading, looking, fetching}
use Rattle.model.specs.Exchange.{Entry, commit, Exchange}
use Rattle.model.specs.Job.{Inner, between, first, copying, again, committing, Phase, idle, plain, reading, exchanging, transacting, Task}
use Rattle.model.specs.Machine.{task_at}
use Rattle.model.proofs.Fit.Exchange.{entry_of}

-- the exchange at work
abbrev pub inner_exchange : Inner → Option Exchange
inner_exchange between = none
inner_exchange (first a r) = none
inner_exchange (copying a n) = none
inner_exchange (again a v r) = none
inner_exchange (committing x) = some x

abbrev pub exchange_in : Phase → Option Exchange
exchange_in idle = none
exchange_in plain = none
exchange_in (reading r w s) = none
exchange_in (exchanging r x) = some x
exchange_in (transacting t s) = inner_exchange s

-- the statement is a Commit that says yes
pub record SaysYes (p : ℕ) (m : Memory) (f : Phase) (x : Exchange) : Type 0 where
  pub exchange : exchange_in f ≡ some x
  pub step : x.step ≡ commit
  pub status : status_of m p ≡ 0

-- every pair's cell had its old value and has its new one; no other cell's value changes
pub record Swapped (m n : Memory) (es : List Entry) : Type 0 where
  pub old : (e : ℕ) → e < length es → current_of m (entry_of es e).cell ≡ (entry_of es e).old
  pub new : (e : ℕ) → e < length es → current_of n (entry_of es e).cell ≡ (entry_of es e).new
  pub others : (c : ℕ) → ((e : ℕ) → e < length es → (entry_of es e).cell ≢ c) → current_of n c ≡ current_of m c

-- every statement leaves all current values, except a Commit that says yes
pub data Cells (p : ℕ) (m : Memory) (f : Phase) (n : Memory) : Type 0 where
  same : ((x : Exchange) → SaysYes p m f x → ⊥) → ((c : ℕ) → current_of n c ≡ current_of m c) → Cells p m f n
  swapped : (x : Exchange) → SaysYes p m f x → x.i ≡ length x.entries → Swapped m n x.entries → Cells p m f n

-- the word that a reading has loaded, and what its Look and Fetch go by
abbrev pub loaded_by : Reading → Option Word
loaded_by loading = none
loaded_by (looking w) = some w
loaded_by (fetching w) = some w

pub record SameContent (m n : Memory) (w : Word) : Type 0 where
  pub value : current n.status n.saves w ≡ current m.status m.saves w
  pub counts : own n.status w ≡ own m.status w

abbrev pub inner_reading : Inner → Reading
inner_reading between = loading
inner_reading (first a r) = r
inner_reading (copying a n) = loading
inner_reading (again a v r) = r
inner_reading (committing x) = loading

abbrev pub reading_in : Phase → Reading
reading_in idle = loading
reading_in plain = loading
reading_in (reading r w s) = s
reading_in (exchanging r x) = loading
reading_in (transacting x s) = inner_reading s

pub record Given (p : ℕ) (m : Memory) (ts : List Task) (n : Memory) : Type 0 where
  pub cells : Cells p m (task_at ts p).job.phase n
  pub readings : (q : ℕ) → q ≢ p → (w : Word) → loaded_by (reading_in (task_at ts q).job.phase) ≡ some w → SameContent m n w
