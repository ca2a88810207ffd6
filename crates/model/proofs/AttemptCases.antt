-- Worked figures of lost attempts: a table of sheets, limits and operations with the ticks in which they lost an attempt, a table of ticks in
-- which a transaction restarts or does not, and one fact over each table, by computation.
use Prim.Native.Nat.{ℕ, suc}
use mathlib.Core.Bool.{Bool, true, false, ◌&&◌}
use mathlib.Core.Path.{◌≡◌, refl}
use mathlib.Core.List.{List, [], ◌∷◌}
use mathlib.Core.Option.{Option, none, some}
use lib.Dec.{eqb}
use Rattle.model.specs.Sheet.{sheet_of}
use Rattle.model.specs.Start.{start_machine}
use Rattle.model.specs.History.{Operation, History, history_of}
use Rattle.model.specs.Rates.{in_tick}
use Rattle.model.specs.LostAttempts.{lost_of, restarts}
use Rattle.model.proofs.WholeCases.{same_numbers}
use Rattle.model.proofs.ClaimCases.{agrees}
use Rattle.model.proofs.Sheets.{sheet_uu, body_take, body_take_write, sheet_seven, sheet_spent_after_stale}

-- an operation: its first tick, its task and the ticks in which it lost an attempt
pub record Lost : Type 0 where
  pub began : ℕ
  pub task : ℕ
  pub ticks : List ℕ

-- the lost attempts of task 0 and of task 1, and the operations
pub record Case : Type 0 where
  pub sheet : List ℕ
  pub limit : ℕ
  pub lower : ℕ
  pub upper : ℕ
  pub operations : List Lost

same_lost : ℕ → Operation → Lost → Bool
unfolding same_numbers
same_lost a o l = eqb a l.began && eqb o.task l.task && same_numbers o.lost l.ticks

-- of the operations from number a on
all_lost : ℕ → List (Option Operation) → List Lost → Bool
unfolding same_lost
all_lost a [] [] = true
all_lost a [] (l ∷ ls) = false
all_lost a (none ∷ os) ls = all_lost (suc a) os ls
all_lost a (some o ∷ os) [] = false
all_lost a (some o ∷ os) (l ∷ ls) = same_lost a o l && all_lost (suc a) os ls

noted_in : Case → History → Bool
unfolding all_lost lost_of
noted_in c h = eqb (lost_of 0 h.began) c.lower && eqb (lost_of 1 h.began) c.upper && all_lost 0 h.began c.operations

pub all_noted : List Case → Bool
unfolding noted_in history_of start_machine sheet_of
all_noted [] = true
all_noted (c ∷ l) = noted_in c (history_of c.limit (start_machine (sheet_of c.sheet))) && all_noted l

noted_by : ℕ → List ℕ → ℕ → ℕ → List Lost → Case
noted_by limit s n m l = record { sheet = s; limit = limit; lower = n; upper = m; operations = l }

lost : ℕ → ℕ → List ℕ → Lost
lost a p ts = record { began = a; task = p; ticks = ts }

pub table : List Case
unfolding noted_by lost
table =
    -- two tasks U: t0 copies the block in ticks 37 to 44 and reads the bank word again in 45 and 46, t1 having committed
    noted_by 65535 sheet_uu 1 0 (lost 0 0 (46 ∷ []) ∷ lost 6 1 [] ∷ [])
    ∷ noted_by 46 sheet_uu 0 0 (lost 0 0 [] ∷ lost 6 1 [] ∷ [])
    ∷ noted_by 47 sheet_uu 1 0 (lost 0 0 (46 ∷ []) ∷ lost 6 1 [] ∷ [])
    -- both kinds in one transaction, and in two transactions of one job; t1's BEGIN stands behind a LOAD
    ∷ noted_by 65535 (sheet_seven body_take 3 38) 2 0 (lost 0 0 (30 ∷ 69 ∷ []) ∷ lost 4 1 [] ∷ lost 39 1 [] ∷ [])
    ∷ noted_by 65535 (sheet_seven body_take_write 13 63) 2 0 (lost 0 0 (44 ∷ []) ∷ lost 14 1 [] ∷ lost 60 0 (97 ∷ []) ∷ lost 64 1 [] ∷ [])
    -- a spent COMMIT, in tick 51, loses none
    ∷ noted_by 65535 sheet_spent_after_stale 1 0 (lost 0 0 (37 ∷ []) ∷ lost 4 1 [] ∷ [])
    ∷ []

-- every operation of the table lost its attempts as it says, and there is no other
pub all_noted_lem : all_noted table ≡ true
unfolding all_noted table
all_noted_lem = refl

-- WHEN A TRANSACTION RESTARTS: a sheet, a task, a tick, and whether it does
pub record Seen : Type 0 where
  pub sheet : List ℕ
  pub task : ℕ
  pub tick : ℕ
  pub restarts? : Bool

pub all_seen : List Seen → Bool
unfolding agrees in_tick start_machine sheet_of
all_seen [] = true
all_seen (s ∷ l) = agrees s.restarts? (restarts (start_machine (sheet_of s.sheet)) s.task s.tick) && all_seen l

seen : List ℕ → ℕ → ℕ → Bool → Seen
seen s p u b = record { sheet = s; task = p; tick = u; restarts? = b }

pub ticks : List Seen
unfolding seen
ticks =
    -- two tasks U: t0 finds the stale version in tick 46, and then reads the bank word anew; t1 begins in tick 6 and ends in tick 34
    seen sheet_uu 0 45 false
    ∷ seen sheet_uu 0 46 true
    ∷ seen sheet_uu 0 47 false
    ∷ seen sheet_uu 1 6 false
    ∷ seen sheet_uu 1 34 false
    ∷ seen sheet_uu 1 46 false
    -- Commit says no in tick 43, and the exchange ends in tick 44
    ∷ seen (sheet_seven body_take_write 13 63) 0 43 false
    ∷ seen (sheet_seven body_take_write 13 63) 0 44 true
    -- COMMIT is spent in tick 51
    ∷ seen sheet_spent_after_stale 0 51 false
    ∷ []

pub all_seen_lem : all_seen ticks ≡ true
unfolding all_seen ticks
all_seen_lem = refl
