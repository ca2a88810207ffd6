-- SWAP of k words by task p, one step a tick: Start, Test, Load, Look, Fetch, Save, Fail, Mark, Install, Commit, Clean with its Mark.
use Rattle.std.specs.Prelude.{ℕ, suc, Bool, true, false, not, ◌&&◌, ◌||◌, List, eqb, length}
use Rattle.model.specs.Lists.{at, replace}
use Rattle.model.specs.Word.{Word, fresh_word, same_word, Memory, cell_of, status_of, saved, set_cell, set_status, set_save, own}

-- A pair of the exchange: its cell, old and new value; what was loaded there, and whether that was overlapped.
pub record Entry : Type 0 where
  pub cell : ℕ
  pub old : ℕ
  pub new : ℕ
  pub init : Word
  pub overlapped : Bool

abbrev pub entry : ℕ → ℕ → ℕ → Entry
entry c o n = record { cell = c; old = o; new = n; init = fresh_word 0; overlapped = false }

-- `save` has the value found, `clean` and its Mark have j and the answer
pub data Step : Type 0 where
  start test load look fetch fail mark install commit : Step
  save : ℕ → Step
  clean : ℕ → Bool → Step
  clean_mark : ℕ → Bool → Step

pub record Exchange : Type 0 where
  pub entries : List Entry
  pub i : ℕ
  pub step : Step

-- a tick leaves the shared memory so, and the exchange goes on or ends with its answer
pub data Exchanged : Type 0 where
  goes : Memory → Exchange → Exchanged
  ends : Memory → Bool → Exchanged

abbrev pub exchange_of : List Entry → Exchange
exchange_of es = record { entries = es; i = 0; step = start }

-- Commit has said yes before this step
abbrev pub said_yes : Step → Bool
said_yes (clean j yes?) = yes?
said_yes (clean_mark j yes?) = yes?
said_yes start = false
said_yes test = false
said_yes load = false
said_yes look = false
said_yes fetch = false
said_yes fail = false
said_yes mark = false
said_yes install = false
said_yes commit = false
said_yes (save v) = false

-- in the tick between these two states Commit has said yes
abbrev pub commit_said_yes : Exchange → Exchange → Bool
commit_said_yes before after = not (said_yes before.step) && said_yes after.step

abbrev pub entry_at : Exchange → ℕ → Entry
entry_at x e = at (entry 0 0 0) x.entries e

abbrev pub changing : Entry → Bool
changing e = not (eqb e.old e.new)

-- what task p installs for its entry with number i
abbrev pub installed : ℕ → Entry → ℕ → Word
installed p e i = record { value = e.new; count = i; valid = false; task = p }

-- the word as new, once the exchange has said yes
abbrev pub cleaned : ℕ → Entry → Word
cleaned p e = record { value = e.new; count = 0; valid = true; task = p }

abbrev pub to : Exchange → Step → Exchange
to x s = record { entries = x.entries; i = x.i; step = s }

-- entry i with what was loaded, and with what Look found
abbrev pub with_init : Entry → Word → Bool → Entry
with_init e w o = record { cell = e.cell; old = e.old; new = e.new; init = w; overlapped = o }

abbrev pub init_loaded : Exchange → Word → Bool → Step → Exchange
init_loaded x w o s = record { entries = replace x.entries x.i (with_init (entry_at x x.i) w o); i = x.i; step = s }

abbrev pub onward : Exchange → Step → Exchange
onward x s = record { entries = x.entries; i = suc x.i; step = s }

unfoldable pub test_by : Bool → Memory → Exchange → Exchanged
test_by true m x = goes m (to x commit)
test_by false m x = goes m (to x load)

unfoldable pub look_by : Bool → Memory → Exchange → Entry → Exchanged
unfolding replace at
look_by true m x e = goes m (init_loaded x e.init false (save e.init.value))
look_by false m x e = goes m (init_loaded x e.init true fetch)

-- after Save, by: the value found is old; Mark is needed
abbrev pub after_save : Bool → Bool → Step
after_save false m = fail
after_save true true = mark
after_save true false = install

unfoldable pub install_by : Bool → ℕ → Memory → Exchange → Entry → Exchanged
unfolding replace
install_by true p m x e = goes (set_cell m e.cell (installed p e x.i)) (onward x test)
install_by false p m x e = goes m (onward x fail)

-- Clean begins, unless there is nothing to clean
unfoldable pub clean_by : Bool → Memory → Exchange → Bool → Exchanged
clean_by true m x yes? = ends m yes?
clean_by false m x yes? = goes m (to x (clean 0 yes?))

unfoldable pub commit_by : Bool → ℕ → Memory → Exchange → Exchanged
unfolding replace clean_by
commit_by true p m x = clean_by (eqb x.i 0) (set_status m p 2) x true
commit_by false p m x = clean_by (eqb x.i 0) m x false

-- Clean goes to the next j, or was the last
unfoldable pub next_by : Bool → Memory → Exchange → ℕ → Bool → Exchanged
next_by true m x j yes? = ends m yes?
next_by false m x j yes? = goes m (to x (clean (suc j) yes?))

unfoldable pub next : Memory → Exchange → ℕ → Bool → Exchanged
unfolding next_by
next m x j yes? = next_by (eqb (suc j) x.i) m x j yes?

-- by: the word becomes new; it is still as installed; it was overlapped
unfoldable pub clean_word_by : Bool → Bool → Bool → ℕ → Memory → Exchange → Entry → ℕ → Bool → Exchanged
unfolding replace next
clean_word_by true true o p m x e j yes? = next (set_cell m e.cell (cleaned p e)) x j yes?
clean_word_by true false o p m x e j yes? = next m x j yes?
clean_word_by false true o p m x e j yes? = next (set_cell m e.cell e.init) x j yes?
clean_word_by false false true p m x e j yes? = goes m (to x (clean_mark j yes?))
clean_word_by false false false p m x e j yes? = next m x j yes?

unfoldable pub exchange_tick : ℕ → Memory → Exchange → Step → Exchanged
unfolding at replace same_word own test_by look_by install_by commit_by clean_word_by next
-- Start: status of p becomes 0, i = 0
exchange_tick p m x start = goes (set_status m p 0) (record { entries = x.entries; i = 0; step = test })
-- Test: at i = k or status 1 go to Commit
exchange_tick p m x test = test_by (eqb x.i (length x.entries) || eqb (status_of m p) 1) m x
-- Load word i as init
exchange_tick p m x load = goes m (init_loaded x (cell_of m (entry_at x x.i).cell) false look)
-- Look: find whether its own value counts
exchange_tick p m x look = look_by (own m.status (entry_at x x.i).init) m x (entry_at x x.i)
-- Fetch the save place if not
exchange_tick p m x fetch = goes m (to x (save (saved m.saves (entry_at x x.i).init.task (entry_at x x.i).init.count)))
-- Save: the value found goes to save place i of p; Fail if it isn't old; Mark only if overlapped and old is not new
exchange_tick p m x (save v) = goes (set_save m p x.i v)
    (to x (after_save (eqb v (entry_at x x.i).old) ((entry_at x x.i).overlapped && changing (entry_at x x.i))))
-- Fail sets p's status to 1
exchange_tick p m x fail = goes (set_status m p 1) (to x test)
-- Mark: init's task gets status 1
exchange_tick p m x mark = goes (set_status m (entry_at x x.i).init.task 1) (to x install)
-- Install: if the word is still init in all four fields, it becomes (new, i, not valid, p); if not, Fail
exchange_tick p m x install = install_by (same_word (cell_of m (entry_at x x.i).cell) (entry_at x x.i).init) p m x (entry_at x x.i)
-- Commit: status 0 becomes 2, answer yes; else no
exchange_tick p m x commit = commit_by (eqb (status_of m p) 0) p m x
-- Clean word j: on yes with old not new as new; else init again, and where it isn't as installed and was overlapped, Mark
exchange_tick p m x (clean j yes?) =
    clean_word_by (yes? && changing (entry_at x j)) (same_word (cell_of m (entry_at x j).cell) (installed p (entry_at x j) j))
    (entry_at x j).overlapped p m x (entry_at x j) j yes?
-- Mark init's task, in one more tick
exchange_tick p m x (clean_mark j yes?) = next (set_status m (entry_at x j).init.task 1) x j yes?
