-- Worked figures of arrivals: one table of sheets, limits and fates, and one fact over the whole table, by computation.
use Prim.Native.Nat.{ℕ}
use mathlib.Core.Bool.{Bool, true, false, ◌&&◌}
use mathlib.Core.Path.{◌≡◌, refl}
use mathlib.Core.List.{List, [], ◌∷◌}
use lib.Dec.{eqb}
use Rattle.model.specs.Sheet.{sheet_of}
use Rattle.model.specs.Start.{start_machine}
use Rattle.model.specs.Machine.{Fate, started_job, waits, neither}
use Rattle.model.specs.Arrivals.{Arrival, arrival, arrivals_of}
use Rattle.model.proofs.Sheets.{sheet_a_at, sheet_u_at, sheet_two_drop}

pub record Case : Type 0 where
  pub sheet : List ℕ
  pub limit : ℕ
  pub arrivals : List Arrival

same_fate : Fate → Fate → Bool
same_fate (started_job t) (started_job u) = eqb t u
same_fate waits waits = true
same_fate neither neither = true
same_fate (started_job t) waits = false
same_fate (started_job t) neither = false
same_fate waits (started_job t) = false
same_fate waits neither = false
same_fate neither (started_job t) = false
same_fate neither waits = false

same_arrival : Arrival → Arrival → Bool
unfolding same_fate
same_arrival a b = eqb a.release.tick b.release.tick && eqb a.release.task b.release.task && same_fate a.fate b.fate

same_arrivals : List Arrival → List Arrival → Bool
unfolding same_arrival
same_arrivals [] [] = true
same_arrivals [] (b ∷ l) = false
same_arrivals (a ∷ k) [] = false
same_arrivals (a ∷ k) (b ∷ l) = same_arrival a b && same_arrivals k l

pub all_seen : List Case → Bool
unfolding same_arrivals arrivals_of start_machine sheet_of
all_seen [] = true
all_seen (c ∷ l) = same_arrivals (arrivals_of c.limit (start_machine (sheet_of c.sheet))) c.arrivals && all_seen l

seen_by : ℕ → List ℕ → List Arrival → Case
seen_by limit s l = record { sheet = s; limit = limit; arrivals = l }

-- the release of that tick and task
came : ℕ → ℕ → Fate → Arrival
came t p f = arrival (record { tick = t; task = p }) f

pub table : List Case
unfolding seen_by came
table =
    -- sheet A released at 0 to 5: the first job takes ticks 0 to 11, the next four 11 ticks each; the sixth release finds four waiting
    seen_by 65535 (sheet_a_at (0 ∷ 1 ∷ 2 ∷ 3 ∷ 4 ∷ 5 ∷ []))
    (came 0 0 (started_job 0) ∷ came 1 0 (started_job 12) ∷ came 2 0 (started_job 23)
    ∷ came 3 0 (started_job 34) ∷ came 4 0 (started_job 45) ∷ came 5 0 neither ∷ [])
    -- before tick 5, which is not done, the sixth has not arrived; in the last tick that the limit allows it has
    ∷ seen_by 5 (sheet_a_at (0 ∷ 1 ∷ 2 ∷ 3 ∷ 4 ∷ 5 ∷ []))
    (came 0 0 (started_job 0) ∷ came 1 0 waits ∷ came 2 0 waits ∷ came 3 0 waits ∷ came 4 0 waits ∷ [])
    ∷ seen_by 6 (sheet_a_at (0 ∷ 1 ∷ 2 ∷ 3 ∷ 4 ∷ 5 ∷ []))
    (came 0 0 (started_job 0) ∷ came 1 0 waits ∷ came 2 0 waits ∷ came 3 0 waits ∷ came 4 0 waits ∷ came 5 0 neither ∷ [])
    -- at limit 12 the oldest still waits, at 13 it has started, and the release of tick 12 waits for it
    ∷ seen_by 12 (sheet_a_at (0 ∷ 3 ∷ 12 ∷ [])) (came 0 0 (started_job 0) ∷ came 3 0 waits ∷ [])
    ∷ seen_by 13 (sheet_a_at (0 ∷ 3 ∷ 12 ∷ [])) (came 0 0 (started_job 0) ∷ came 3 0 (started_job 12) ∷ came 12 0 waits ∷ [])
    -- behind a spent job, 20 ticks each
    ∷ seen_by 65535 (sheet_u_at 16777215 (0 ∷ 5 ∷ [])) (came 0 0 (started_job 0) ∷ came 5 0 (started_job 20) ∷ [])
    -- two tasks: t1's jobs from 1, 13, 24, 35 and 46 on; t0's first goes on at 57, and the four that waited start at 58, 60, 62 and 64
    ∷ seen_by 6 sheet_two_drop
    (came 0 0 (started_job 0) ∷ came 1 0 waits ∷ came 1 1 (started_job 1) ∷ came 2 0 waits ∷ came 2 1 waits ∷ came 3 0 waits
    ∷ came 3 1 waits ∷ came 4 0 waits ∷ came 4 1 waits ∷ came 5 0 neither ∷ came 5 1 waits ∷ [])
    ∷ seen_by 65535 sheet_two_drop
    (came 0 0 (started_job 0) ∷ came 1 0 (started_job 58) ∷ came 1 1 (started_job 1) ∷ came 2 0 (started_job 60)
    ∷ came 2 1 (started_job 13) ∷ came 3 0 (started_job 62) ∷ came 3 1 (started_job 24) ∷ came 4 0 (started_job 64)
    ∷ came 4 1 (started_job 35) ∷ came 5 0 neither ∷ came 5 1 (started_job 46) ∷ came 6 0 neither
    ∷ came 6 1 neither ∷ [])
    ∷ []

-- every release of the table arrives and fares as it says
pub all_seen_lem : all_seen table ≡ true
unfolding all_seen table
all_seen_lem = refl
