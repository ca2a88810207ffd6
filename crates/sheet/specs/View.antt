-- The model's verdict and the numbers that the check's answer stands for.
use Rattle.std.specs.Prelude.{Result, Ok, Err}
use Rattle.model.specs.Refusal as R
use Rattle.model.specs.Sheet as S
use Rattle.model.specs.Answer.{Checked}
use Rattle.commands.specs.View.{view_refusal}
use Rattle.commands.specs.declared.Fault.{Fault}

-- the outcome of the check: nothing, or the first fault
abbrev pub Outcome : Type 0
Outcome = Result (Unit {0}) Fault

abbrev pub view_verdict : Outcome → S.Verdict
view_verdict (Ok u) = S.accepted
view_verdict (Err f) = S.turned_down (view_refusal f.refusal) f.place

-- document 01's number and place of each answer; an accepted sheet has 0 and 0
abbrev pub checked_of : Outcome → Checked
checked_of (Ok u) = record { number = 0; place = 0 }
checked_of (Err f) = record { number = R.number (view_refusal f.refusal); place = f.place }
