-- `find` meets its contract.
use Rattle.commands.proofs.Search.{here, next, past}
use mathlib.Core.Path.{◌∙◌, sym}
use native.Mathlib.Omega.{arith}
use Rattle.commands.proofs.table.find.Goals as goal

pub returns-then-entry-b : goal.returns-then-entry-b
returns-then-entry-b c =
    let l = c.loop-entry in
    sym (l.invariant ∙ here c.args.b c.args.entries.now l.entry-index (omega arith) (sym c.if-entry-b.true))

pub loop-entry-preserved : goal.loop-entry-preserved
loop-entry-preserved c =
    let l = c.loop-entry in
    l.invariant ∙ next c.args.b c.args.entries.now l.entry-index (omega arith) (λ e. c.if-entry-b.false (sym e))

pub returns : goal.returns
returns c =
    let l = c.loop-entry in
    sym (l.invariant ∙ past c.args.b c.args.entries.now l.entry-index (omega arith))
