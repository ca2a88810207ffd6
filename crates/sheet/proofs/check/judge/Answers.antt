-- `judge` meets its contract.
use Rattle.sheet.proofs.Reading.{stops-at_end, stops-at_fault}
use mathlib.Core.Path.{◌∙◌, sym}
use Rattle.sheet.proofs.check.judge.Goals as goal

pub returns-in-Some : goal.returns-in-Some
returns-in-Some c = λ go. stops-at_fault go _ _ _ _ _ (sym c.in-Some.ensures)

pub returns-then-is_end : goal.returns-then-is_end
returns-then-is_end c = λ go.
    stops-at_end go _ _ _ _ _
    (sym c.in_default.ensures)
    (sym c.is_end.ensures ∙ c.if-is_end.true)
    ∙ sym c.at_end.ensures

pub returns-else-is_end : goal.returns-else-is_end
returns-else-is_end c = (sym c.in_default.ensures, sym c.is_end.ensures ∙ c.if-is_end.false)
