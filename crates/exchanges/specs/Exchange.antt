-- What each statement of an exchange leaves, over the shared memory and the record of the task: the next step, and what it writes.
use Rattle.std.specs.Prelude.{ℕ, ◌+◌, ◌*◌, Bool, true, false, ◌||◌, ◌==◌}
use Rattle.model.specs.Lists.{at}
use Rattle.state.specs.Packed.{packed, value_of, task_of}
use Rattle.state.specs.State.{Shared, set_cell, set_status, set_save, Own, set_init, set_overlapped}
use Rattle.exchanges.specs.Places.{if, next_of, Went, went, Noted, noted, Left, left}
use Rattle.exchanges.specs.Reading.{owned, saved_for}
use Rattle.exchanges.specs.declared.exchange.Step.{Step}
use Rattle.exchanges.specs.declared.exchange.Step.TheVariants.{Start, Test, Load, Look, Fetch, Save, Fail}
use Rattle.exchanges.specs.declared.exchange.Step.TheVariants.{Mark, Install, Commit, Clean, CleanMark}
use Rattle.exchanges.specs.declared.exchange.Exchanged.{Exchanged}
use Rattle.exchanges.specs.declared.exchange.Exchanged.TheVariants.{Goes, Finds, Ends}

unfoldable pub after_start : Shared → ℕ → Went Step
after_start m p = went (Test 0) (set_status m p 0)

unfoldable pub after_test : Shared → ℕ → ℕ → ℕ → Step
after_test m p k i = if (i == k || at 0 m.status p == 1) (Commit i) (Load i)

unfoldable pub after_load : Shared → Own → ℕ → Noted Step
after_load m t i = noted (Look i) (set_overlapped (set_init t i (at 0 m.cells (at 0 t.entries.targets i))) i 0)

-- the value found for entry i
abbrev pub found : ℕ → ℕ → Exchanged
found i x = Finds (record { i = i; value = x })

unfoldable pub after_look : Shared → Own → ℕ → Noted Exchanged
after_look m t i =
    if (owned m (at 0 t.entries.inits i)) (noted (found i (value_of (at 0 t.entries.inits i))) (set_overlapped t i 0))
    (noted (Goes (Fetch i)) (set_overlapped t i 1))

unfoldable pub after_fetch : Shared → Own → ℕ → Exchanged
after_fetch m t i = found i (saved_for m (at 0 t.entries.inits i))

-- by: the value found is old; the word was not overlapped; old is new
abbrev pub saved_step : Bool → Bool → Bool → ℕ → Step
saved_step false o n i = Fail i
saved_step true true n i = Install i
saved_step true false true i = Install i
saved_step true false false i = Mark i

unfoldable pub after_save : Shared → Own → ℕ → ℕ → ℕ → Went Step
after_save m t p i v =
    went
    (saved_step (v == at 0 t.entries.olds i) (at 0 t.entries.overlapped i == 0)
    (at 0 t.entries.olds i == at 0 t.entries.news i) i)
    (set_save m (8 * p + i) v)

unfoldable pub after_fail : Shared → ℕ → ℕ → Went Step
after_fail m p i = went (Test i) (set_status m p 1)

-- the task of the word loaded for entry i gets status 1
unfoldable pub marked : Shared → Own → ℕ → Shared
marked m t i = set_status m (task_of (at 0 t.entries.inits i)) 1

unfoldable pub after_mark : Shared → Own → ℕ → Went Step
unfolding marked
after_mark m t i = went (Install i) (marked m t i)

abbrev pub installed_at : Own → ℕ → ℕ → ℕ
installed_at t p i = packed (at 0 t.entries.news i) i false p

unfoldable pub after_install : Shared → Own → ℕ → ℕ → Went Step
after_install m t p i =
    if (at 0 m.cells (at 0 t.entries.targets i) == at 0 t.entries.inits i)
    (went (Test (next_of i)) (set_cell m (at 0 t.entries.targets i) (installed_at t p i)))
    (went (Fail (next_of i)) m)

-- Clean begins, unless there is nothing to clean
abbrev pub cleaning : ℕ → Bool → Exchanged
cleaning i yes? = if (i == 0) (Ends yes?) (Goes (Clean i 0 yes?))

unfoldable pub after_commit : Shared → ℕ → ℕ → Went Exchanged
after_commit m p i = if (at 0 m.status p == 0) (went (cleaning i true) (set_status m p 2)) (went (cleaning i false) m)

-- Clean goes to the next j, or was the last
abbrev pub onward : ℕ → ℕ → Bool → Exchanged
onward i j yes? = if (next_of j == i) (Ends yes?) (Goes (Clean i (next_of j) yes?))

abbrev pub as_new : ℕ → ℕ → Bool → Bool
as_new old new yes? = if (old == new) false yes?

-- by: the word becomes new; it is still as installed; it was not overlapped
abbrev pub cleaned : Bool → Bool → Bool → Shared → ℕ → ℕ → ℕ → Exchanged → Exchanged → Went Exchanged
cleaned true true o m cell new init next marks = went next (set_cell m cell new)
cleaned true false o m cell new init next marks = went next m
cleaned false true o m cell new init next marks = went next (set_cell m cell init)
cleaned false false true m cell new init next marks = went next m
cleaned false false false m cell new init next marks = went marks m

unfoldable pub after_clean : Shared → Own → ℕ → ℕ → ℕ → Bool → Went Exchanged
after_clean m t p i j yes? =
    cleaned
    (as_new (at 0 t.entries.olds j) (at 0 t.entries.news j) yes?)
    (at 0 m.cells (at 0 t.entries.targets j) == installed_at t p j)
    (at 0 t.entries.overlapped j == 0)
    m
    (at 0 t.entries.targets j)
    (packed (at 0 t.entries.news j) 0 true p)
    (at 0 t.entries.inits j)
    (onward i j yes?)
    (Goes (CleanMark i j yes?))

unfoldable pub after_clean_mark : Shared → Own → ℕ → ℕ → Bool → Went Exchanged
unfolding marked
after_clean_mark m t i j yes? = went (onward i j yes?) (marked m t j)

abbrev pub in_memory : Own → Went Exchanged → Left Exchanged
in_memory t w = left w.next w.memory t

abbrev pub goes_on : Own → Went Step → Left Exchanged
goes_on t w = left (Goes w.next) w.memory t

-- one statement of the exchange of k words by task p, with x the value found last
unfoldable pub after_exchange : Shared → Own → ℕ → ℕ → ℕ → Step → Left Exchanged
after_exchange m t p k x Start = goes_on t (after_start m p)
after_exchange m t p k x (Test i) = left (Goes (after_test m p k i)) m t
after_exchange m t p k x (Load i) = left (Goes (after_load m t i).next) m (after_load m t i).task
after_exchange m t p k x (Look i) = left (after_look m t i).next m (after_look m t i).task
after_exchange m t p k x (Fetch i) = left (after_fetch m t i) m t
after_exchange m t p k x (Save i) = goes_on t (after_save m t p i x)
after_exchange m t p k x (Fail i) = goes_on t (after_fail m p i)
after_exchange m t p k x (Mark i) = goes_on t (after_mark m t i)
after_exchange m t p k x (Install i) = goes_on t (after_install m t p i)
after_exchange m t p k x (Commit i) = in_memory t (after_commit m p i)
after_exchange m t p k x (Clean i j yes?) = in_memory t (after_clean m t p i j yes?)
after_exchange m t p k x (CleanMark i j yes?) = in_memory t (after_clean_mark m t i j yes?)
