-- The letter, the numbers and the line's end. The loop takes all the numbers.
use Rattle.std.proofs.Common.{rules}
use Rattle.std.proofs.lemmas.Iterator.{YieldsList-from_slice}
use Rattle.std.proofs.lemmas.Iterator.Consumers.{YieldsList-from_copied, YieldsList-from_chain, YieldsList-end}
use Rattle.report.proofs.Writing.{nothing, number_more, whole_line}
use Rattle.report.proofs.text.Writer.line.Goals as goal

pub loop-value-init : goal.loop-value-init
loop-value-init c = nothing _

pub loop-value-preserved : goal.loop-value-preserved
loop-value-preserved c = number_more _ _ c.loop-value.invariant c.put-in-loop-value.ensures c.decimal.ensures

pub returns : goal.returns
returns c =
    let first = YieldsList-from_slice c.args.first.now (search rules) in
    let others = YieldsList-from_slice c.args.others.now (search rules) in
    let all = YieldsList-from_copied (YieldsList-from_chain first others (search rules) (search rules)) in
    let end = YieldsList-end all c.loop-value.yielded _ c.loop-value.yielded_by _ _ c.in-None.is c.next.ensures.steps in
    whole_line _ _ _ end.0 c.put.ensures c.loop-value.invariant c.put-2.ensures
