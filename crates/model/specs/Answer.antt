-- The answers of the two public entries: number and place of the sheet check; number, place and report buffer of a run.
use Rattle.std.specs.Prelude.{ℕ, Bool, true, false, List, ◌++◌, leb, length, drop}
use Rattle.model.specs.Refusal.{Refusal, limit_too_high, buffer_too_short, number}
use Rattle.model.specs.Ceilings.{max_limit}
use Rattle.model.specs.Sheet.{Verdict, accepted, turned_down, verdict, sheet_of}
use Rattle.model.specs.Machine.{Machine, run}
use Rattle.model.specs.Start.{start_machine}
use Rattle.model.specs.Report.{report}

-- THE SHEET CHECK. An accepted sheet has number 0 and place 0.
pub record Checked : Type 0 where
  pub number : ℕ
  pub place : ℕ

unfoldable pub checked_by : Verdict → Checked
checked_by accepted = record { number = 0; place = 0 }
checked_by (turned_down f place) = record { number = number f; place = place }

unfoldable pub check_answer : List ℕ → Checked
unfolding checked_by verdict
check_answer sheet = checked_by (verdict sheet)

-- THE RUN. A run that is not turned down has number 0, and its place is the report's length.
pub record Answer : Type 0 where
  pub number : ℕ
  pub place : ℕ
  pub buffer : List ℕ

abbrev pub refuse : Refusal → ℕ → List ℕ → Answer
refuse f place buffer = record { number = number f; place = place; buffer = buffer }

-- the machine when the run has stopped
abbrev pub final_of : List ℕ → ℕ → Machine
final_of sheet limit = run limit (start_machine (sheet_of sheet))

unfoldable pub report_of : List ℕ → ℕ → List ℕ
unfolding run start_machine sheet_of report
report_of sheet limit = report (sheet_of sheet) (final_of sheet limit)

-- the report at the buffer's start, the bytes past it unchanged; a buffer of just its length is enough
unfoldable pub written : Bool → List ℕ → List ℕ → Answer
written true text buffer = record { number = 0; place = length text; buffer = text ++ drop (length text) buffer }
written false text buffer = refuse buffer_too_short (length text) buffer

unfoldable pub limited_by : Bool → List ℕ → ℕ → List ℕ → Answer
unfolding written report_of
limited_by true sheet limit buffer = let text : List ℕ = report_of sheet limit in written (leb (length text) (length buffer)) text buffer
limited_by false sheet limit buffer = refuse limit_too_high 0 buffer

-- sheet faults go before 9, and 9 before 10
unfoldable pub answered_by : Verdict → List ℕ → ℕ → List ℕ → Answer
unfolding limited_by
answered_by (turned_down f place) sheet limit buffer = refuse f place buffer
answered_by accepted sheet limit buffer = limited_by (leb limit max_limit) sheet limit buffer

unfoldable pub run_answer : List ℕ → ℕ → List ℕ → Answer
unfolding answered_by verdict
run_answer sheet limit buffer = answered_by (verdict sheet) sheet limit buffer
