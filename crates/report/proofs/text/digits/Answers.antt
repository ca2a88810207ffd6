-- The digits are stored from the last to the first. The invariant: those of `rest` are left; the measure is `rest`.
use borrow.Author.Rules.{rules}
use Rattle.report.proofs.Numerals.{whole-number, further, stored_next, stored-first}
use Rattle.report.proofs.text.digits.Goals as goal

pub loop-rest-init : goal.loop-rest-init
loop-rest-init c = whole-number _ _ c.requires (search rules)

pub overflow_sub-first : goal.overflow_sub-first
overflow_sub-first c = further c.loop-rest.invariant c.loop-rest-test.true

pub loop-rest-preserved : goal.loop-rest-preserved
loop-rest-preserved c = stored_next c.loop-rest.invariant c.loop-rest-test.true

pub returns : goal.returns
returns c = (c.loop-rest.invariant.inside, stored-first c.loop-rest.invariant c.loop-rest-test.false)
