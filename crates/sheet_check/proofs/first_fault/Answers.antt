-- The reading begins at the sheet's start, and each outcome at a command says what Judging has of it.
use Rattle.std.proofs.Common.{ap, ◌≡◌, ◌∙◌, Err, rules}
use Rattle.rules.proofs.Faults.{keeps}
use Rattle.sheet.specs.View.{view_verdict}
use Rattle.sheet_check.proofs.Judging.{begins, at_fault, at-stop, over_sheet, at-command, less-left}
use Rattle.sheet_check.proofs.first_fault.Goals as goal

pub loop-c-init : goal.loop-c-init
loop-c-init c =
    record { over = ap (λ x. x.now) c.over-reader.ensures.0; reached = rw c.over-reader.ensures.1 (begins _ _ c.nothing-known.ensures) }

pub returns-in_default : goal.returns-in_default
returns-in_default c =
    let i = c.loop-c.invariant in
    let passed : c.map.result ≡ Err c.in_default.field-0 = search rules in
    ap view_verdict passed ∙ at_fault _ c.loop-c.reader _ i.over i.reached _ (rw c.in_default.is at c.next-answer.ensures.0)

pub returns-in-Some : goal.returns-in-Some
returns-in-Some c =
    let i = c.loop-c.invariant in at-stop _ c.loop-c.reader _ i.over i.reached _ _ c.in-Ok.ensures.0 _ c.in-Some.ensures

pub learn-requires : goal.learn-requires
learn-requires c = (keeps _ _ c.in_default-judge.ensures.0).under

pub loop-c-smaller : goal.loop-c-smaller
loop-c-smaller c = let i = c.loop-c.invariant in less-left _ c.loop-c.reader _ i.over i.reached _ _ c.in-Ok.ensures.0 _ c.next-answer.ensures.1

pub loop-c-preserved : goal.loop-c-preserved
loop-c-preserved c =
    let i = c.loop-c.invariant in
    record {
      over = over_sheet _ c.loop-c.reader _ i.over i.reached _ _ c.in-Ok.ensures.0 _ c.next-answer.ensures.1;
      reached = at-command _ c.loop-c.reader _ i.over i.reached _ _ c.in-Ok.ensures.0 _ c.next-answer.ensures.1 _ c.in_default-judge.ensures c.learn.ensures;
    }
