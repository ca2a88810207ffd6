-- What each task does to the cells, and the stages of an exchange. The exchange layer knows no more of a task than this.
use Prim.Native.Nat.{ℕ, suc, ◌<◌}
use mathlib.Core.Bool.{Bool, true, false, true≢false}
use mathlib.Core.Path.{◌≡◌, refl, sym}
use mathlib.Core.List.{List}
use lib.ListN.{length}
use Rattle.model.specs.Lists.{at}
use Rattle.model.specs.Word.{Memory, Reading}
use Rattle.model.specs.Exchange.{Entry, entry, Step, start, test, load, look, fetch, fail, mark, install}
use Rattle.model.specs.Exchange.{commit, save, clean, clean_mark, Exchange, Exchanged, goes, ends}

-- a reading of that cell, for a plain word and a bank word alike
pub data Act : Type 0 where
  free : Act
  reading : ℕ → Reading → Act
  exchanging : Exchange → Act

abbrev pub act_at : List Act → ℕ → Act
act_at acts p = at free acts p

abbrev pub act_by : Step → Exchange → Act
act_by start x = free
act_by test x = exchanging x
act_by load x = exchanging x
act_by look x = exchanging x
act_by fetch x = exchanging x
act_by (save v) x = exchanging x
act_by fail x = exchanging x
act_by mark x = exchanging x
act_by install x = exchanging x
act_by commit x = exchanging x
act_by (clean j yes?) x = exchanging x
act_by (clean_mark j yes?) x = exchanging x

-- an exchange that waits for its Start does nothing to the cells
abbrev pub act_of : Exchange → Act
act_of x = act_by x.step x

pub started? : {P : Type 0} (x : Exchange) → (x.step ≡ start → P) → (act_of x ≡ exchanging x → P) → P
started? {P} x f g = go x.step refl
  where
    go : (s : Step) → x.step ≡ s → P
    go start s = f s
    go test s = g (rw s)
    go load s = g (rw s)
    go look s = g (rw s)
    go fetch s = g (rw s)
    go (save v) s = g (rw s)
    go fail s = g (rw s)
    go mark s = g (rw s)
    go install s = g (rw s)
    go commit s = g (rw s)
    go (clean j yes?) s = g (rw s)
    go (clean_mark j yes?) s = g (rw s)

-- what a tick of the exchange leaves
abbrev pub act_after : Exchanged → Act
act_after (goes m x) = act_of x
act_after (ends m yes?) = free

abbrev pub memory_after : Exchanged → Memory
memory_after (goes m x) = m
memory_after (ends m yes?) = m

abbrev pub Quiet : Act → Type 0
Quiet free = Unit {0}
Quiet (reading c r) = Unit {0}
Quiet (exchanging x) = ⊥

-- testing: between two entries; working: at entry i, from Load to Install; cleaning: entry j is next; marking: Clean's Mark of entry j waits
pub data Stage : Type 0 where
  testing working failing : Stage
  cleaning marking : ℕ → Stage

abbrev pub stage_of : Step → Stage
stage_of start = testing
stage_of test = testing
stage_of load = working
stage_of look = working
stage_of fetch = working
stage_of (save v) = working
stage_of fail = failing
stage_of mark = working
stage_of install = working
stage_of commit = testing
stage_of (clean j yes?) = cleaning j
stage_of (clean_mark j yes?) = marking j

-- Commit has not answered
abbrev pub undecided : Stage → Bool
undecided testing = true
undecided working = true
undecided failing = true
undecided (cleaning j) = false
undecided (marking j) = false

-- Commit has not answered, and no Fail waits
abbrev pub hopeful : Stage → Bool
hopeful testing = true
hopeful working = true
hopeful failing = false
hopeful (cleaning j) = false
hopeful (marking j) = false

-- entries from here up to i can stand in their cells
abbrev pub uncleaned : Stage → ℕ
uncleaned testing = 0
uncleaned working = 0
uncleaned failing = 0
uncleaned (cleaning j) = j
uncleaned (marking j) = suc j

-- entries from here up to i answer for the content that they replaced
abbrev pub covering : Stage → ℕ
covering testing = 0
covering working = 0
covering failing = 0
covering (cleaning j) = j
covering (marking j) = j

-- before the answer these are all entries below i
pub undecided_all : (s : Stage) → undecided s ≡ true → (uncleaned s ≡ 0) × (covering s ≡ 0)
undecided_all testing u = (refl, refl)
undecided_all working u = (refl, refl)
undecided_all failing u = (refl, refl)
undecided_all (cleaning j) u = absurd (true≢false (sym u))
undecided_all (marking j) u = absurd (true≢false (sym u))

abbrev pub stage : Exchange → Stage
stage x = stage_of x.step

abbrev pub here : Exchange → Entry
here x = at (entry 0 0 0) x.entries x.i

abbrev pub Distinct : List Entry → Type 0
Distinct es = (e f : ℕ) → e < length es → f < length es → (at (entry 0 0 0) es e).cell ≡ (at (entry 0 0 0) es f).cell → e ≡ f
