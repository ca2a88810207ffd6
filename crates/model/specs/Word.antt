-- Words and their current values, and READ.
use Rattle.std.specs.Prelude.{ℕ, Bool, true, false, not, ◌&&◌, ◌||◌, List, [], eqb}
use Rattle.model.specs.Lists.{at, replace}

pub record Word : Type 0 where
  pub value : ℕ
  pub count : ℕ
  pub valid : Bool
  pub task : ℕ

-- a word starts valid, with count 0 and task 0
abbrev pub fresh_word : ℕ → Word
fresh_word v = record { value = v; count = 0; valid = true; task = 0 }

abbrev pub same_mark : Bool → Bool → Bool
same_mark true b = b
same_mark false b = not b

-- equal in all four fields
unfoldable pub same_word : Word → Word → Bool
same_word a b = eqb a.value b.value && eqb a.count b.count && same_mark a.valid b.valid && eqb a.task b.task

-- What all tasks share. Plain words and bank words are cells; each task has a status and eight save places; a block store has eight values.
pub record Memory : Type 0 where
  pub cells : List Word
  pub status : List ℕ
  pub saves : List (List ℕ)
  pub stores : List (List ℕ)

abbrev pub memory : List Word → List ℕ → List (List ℕ) → List (List ℕ) → Memory
memory c s v b = record { cells = c; status = s; saves = v; stores = b }

abbrev pub cell_of : Memory → ℕ → Word
cell_of m c = at (fresh_word 0) m.cells c

abbrev pub status_of : Memory → ℕ → ℕ
status_of m p = at 0 m.status p

abbrev pub saved : List (List ℕ) → ℕ → ℕ → ℕ
saved saves p i = at 0 (at [] saves p) i

-- value n of a block store
abbrev pub stored : List (List ℕ) → ℕ → ℕ → ℕ
stored stores s n = at 0 (at [] stores s) n

abbrev pub set_cell : Memory → ℕ → Word → Memory
set_cell m c w = memory (replace m.cells c w) m.status m.saves m.stores

abbrev pub set_status : Memory → ℕ → ℕ → Memory
set_status m p v = memory m.cells (replace m.status p v) m.saves m.stores

abbrev pub set_save : Memory → ℕ → ℕ → ℕ → Memory
set_save m p i v = memory m.cells m.status (replace m.saves p (replace (at [] m.saves p) i v)) m.stores

abbrev pub set_stored : Memory → ℕ → ℕ → ℕ → Memory
set_stored m s n v = memory m.cells m.status m.saves (replace m.stores s (replace (at [] m.stores s) n v))

-- the word's own value counts: it is valid, or its task's status is 2
unfoldable pub own : List ℕ → Word → Bool
unfolding at
own status w = w.valid || eqb (at 0 status w.task) 2

unfoldable pub current_by : Bool → List (List ℕ) → Word → ℕ
unfolding at
current_by true saves w = w.value
current_by false saves w = saved saves w.task w.count

-- the current value: the word's own, or else the save place of its task and count
unfoldable pub current : List ℕ → List (List ℕ) → Word → ℕ
unfolding own current_by
current status saves w = current_by (own status w) saves w

abbrev pub current_of : Memory → ℕ → ℕ
current_of m c = current m.status m.saves (cell_of m c)

-- READ, also of a bank word: load the word, look at status, fetch the save place only if needed
pub data Reading : Type 0 where
  loading : Reading
  looking : Word → Reading
  fetching : Word → Reading

-- a tick of a read goes on, or gives the value
pub data Read : Type 0 where
  reads : Reading → Read
  gives : ℕ → Read

unfoldable pub looking_by : Bool → Word → Read
looking_by true w = gives w.value
looking_by false w = reads (fetching w)

unfoldable pub read_tick : Memory → ℕ → Reading → Read
unfolding at own looking_by
read_tick m c loading = reads (looking (cell_of m c))
read_tick m c (looking w) = looking_by (own m.status w) w
read_tick m c (fetching w) = gives (saved m.saves w.task w.count)
