-- The digits are stored from the last to the first. The invariant: those of `rest` are left; the measure is `rest`.
use Rattle.report.proofs.Numerals.{Left}
use Rattle.report.proofs.text.digits.Given as goal

abbrev pub invariant-loop-rest : goal.invariant-loop-rest
invariant-loop-rest l = Left l.value l.text l.rest l.first

abbrev pub decreases-loop-rest : goal.decreases-loop-rest
decreases-loop-rest l = l.rest
