-- The contracts of the two entries of this library: number, place and buffer, each by an equation with the model's answer; of a
-- check, that a sheet is accepted exactly when it is well formed; of a run, the claim, the rates, and what holds of releases that
-- wait, of those dropped and of lost attempts.
use Rattle.std.specs.Prelude.{ℕ, ◌≡◌, ◌↔◌, List, Result, Ok, Err}
use Rattle.model.specs.Refusal as R
use Rattle.model.specs.Sheet.{verdict, accepted}
use Rattle.model.specs.WellFormed.{WellFormed}
use Rattle.model.specs.Answer.{check_answer, run_answer}
use Rattle.model.specs.Claim.{WholeOperations}
use Rattle.model.specs.Rates.{Rates}
use Rattle.model.specs.ExactTicks.{ExactTicks}
use Rattle.model.specs.Waiting.{Waits}
use Rattle.model.specs.Drops.{Drops}
use Rattle.model.specs.LostAttempts.{LostAttempts}
use Rattle.commands.specs.View.{view_refusal}
use Rattle.commands.specs.declared.Fault.{Fault}
use Rattle.sheet.specs.View.{Outcome, checked_of}

-- number and place of what a run returns: 0 and the report's length, or document 01's number of the refusal and its place
abbrev pub number_of : Result ℕ Fault → ℕ
number_of (Ok n) = 0
number_of (Err f) = R.number (view_refusal f.refusal)

abbrev pub place_of : Result ℕ Fault → ℕ
place_of (Ok n) = n
place_of (Err f) = f.place

-- THE SHEET CHECK
pub record ChecksFor (sheet : List ℕ) (n p : ℕ) : Type 0 where
  pub number : n ≡ (check_answer sheet).number
  pub place : p ≡ (check_answer sheet).place
  -- accepted exactly when well formed
  pub well_formed : n ≡ 0 ↔ WellFormed sheet

abbrev pub Checks : List ℕ → Outcome → Type 0
Checks sheet r = ChecksFor sheet (checked_of r).number (checked_of r).place

-- THE RUN, with the buffer before and after
pub record RunsFor (sheet : List ℕ) (limit : ℕ) (before after : List ℕ) (n p : ℕ) : Type 0 where
  pub number : n ≡ (run_answer sheet limit before).number
  pub place : p ≡ (run_answer sheet limit before).place
  pub buffer : after ≡ (run_answer sheet limit before).buffer
  -- demand 3, of the same sheet and limit
  pub whole : verdict sheet ≡ accepted → WholeOperations sheet limit
  -- how many ticks of its own each operation takes at most
  pub rates : verdict sheet ≡ accepted → Rates sheet limit
  -- and how many exactly a finished exchange takes, by what it did in its steps
  pub exact : verdict sheet ≡ accepted → ExactTicks sheet limit
  -- at most four releases wait behind a job, and what else holds of them
  pub waits : verdict sheet ≡ accepted → Waits sheet limit
  -- each task's drops are its arrivals that neither started a job nor wait, and the arrivals are all there
  pub drops : verdict sheet ≡ accepted → Drops sheet limit
  -- each task's lost attempts are those of its operations: the ticks in which its transactions restarted, for either cause
  pub lost : verdict sheet ≡ accepted → LostAttempts sheet limit

-- where it succeeds the place is the report's length
abbrev pub Runs : List ℕ → ℕ → List ℕ → List ℕ → Result ℕ Fault → Type 0
Runs sheet limit before after r = RunsFor sheet limit before after (number_of r) (place_of r)
