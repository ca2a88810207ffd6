-- Worked figures of exchanges: one table of sheets, tasks, first and last ticks of an exchange, its ticks and what it did in them, and one fact
-- over the whole table, by computation.
use Prim.Native.Nat.{ℕ}
use mathlib.Core.Path.{◌≡◌, refl}
use mathlib.Core.List.{List, [], ◌∷◌, ◌++◌, map}
use Rattle.model.specs.Lists.{at}
use Rattle.model.specs.Sheet.{sheet_of}
use Rattle.model.specs.Machine.{Machine, run}
use Rattle.model.specs.Start.{start_machine}
use Rattle.model.specs.Rates.{in_tick, own_before, own_ticks}
use Rattle.model.specs.ExactTicks.{Tally, tally, tally_of, exact_ticks, tallies}
use Rattle.model.proofs.Sheets.{sheet_a, exchanging, body₁, body_two_words, against, sheet_u}
use Rattle.model.proofs.Bytes.{word, task, release, end, load, pair, swap}

pub record Row : Type 0 where
  pub sheet : List ℕ
  pub task : ℕ
  pub first : ℕ
  pub last : ℕ
  pub ticks : ℕ
  pub did : Tally

abbrev row : List ℕ → ℕ → ℕ → ℕ → ℕ → Tally → Row
row s p a l t c = record { sheet = s; task = p; first = a; last = l; ticks = t; did = c }

-- what the definitions say
abbrev computed : Row → Row
computed r =
    let m : Machine = start_machine (sheet_of r.sheet) in
    row r.sheet r.task r.first r.last (own_ticks m r.task r.first r.last) (tallies m r.task r.first r.last)

-- the ticks are those that the steps tell
abbrev told : Row → ℕ
told r = exact_ticks r.did

-- Task 1 finds word 0 overlapped, and before its Install task 2 changes that word: it does every step there is.
unfoldable pub sheet_of_three : List ℕ
sheet_of_three = word 12 ++ exchanging 5 ++ exchanging 7 ++ exchanging 9 ++ release 0 0 ++ release 9 1 ++ release 16 2 ++ end

-- a task that expects 5 in word 0
abbrev expecting_five : List ℕ
expecting_five = task ++ load 1 5 ++ load 2 7 ++ pair 0 1 2 ++ swap 0

pub table : List Row
table =
    -- P1 alone: 6 * 1 + 3
    row sheet_a 0 3 11 9 (tally 1 0 0 0 0)
    -- P3: task 1 fetches and marks; task 0, marked, says no after an install
    ∷ row (against (word 12) body₁ 9) 1 12 22 11 (tally 1 0 1 1 0)
    ∷ row (against (word 12) body₁ 9) 0 3 25 9 (tally 1 0 0 0 0)
    -- P4: a differing value at the first word
    ∷ row (against (word 12) body₁ 11) 1 14 21 8 (tally 0 1 0 0 0)
    -- P5: one word tried, the next differs
    ∷ row (against (word 12 ++ word 22) body_two_words 9) 1 13 28 16 (tally 1 1 1 1 0)
    -- the value fetched differs; it is as old, and new is the same: no mark
    ∷ row (against (word 12) expecting_five 9) 1 12 20 9 (tally 0 1 1 0 0)
    ∷ row (against (word 12) (exchanging 12) 9) 1 12 21 10 (tally 1 0 1 0 0)
    -- every step there is: 9 * 1 + 4
    ∷ row sheet_of_three 1 12 38 13 (tally 1 0 1 2 1)
    -- P9: the exchange of a COMMIT
    ∷ row (sheet_u 3) 0 20 28 9 (tally 1 0 0 0 0)
    ∷ []

pub figures : map computed table ≡ table
unfolding table sheet_of_three run start_machine sheet_of at in_tick own_before tally_of
figures = refl

pub exact_figures : map told table ≡ map (λ (r : Row). r.ticks) table
unfolding table
exact_figures = refl
