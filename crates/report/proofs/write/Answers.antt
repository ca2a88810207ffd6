-- The lines of the words, blocks and tasks, one after another, and the last line.
use Rattle.std.proofs.Common.{refl, map, rules, arith, ◌∙◌}
use Rattle.model.specs.Report.{word_line, block_line}
use Rattle.state.specs.State.{shared, own}
use Rattle.state.specs.Held.{memory_of}
use Rattle.report.specs.Text.{task_lines_of, task_most}
use Rattle.report.proofs.Views.{word-text, task_text}
use Rattle.report.proofs.Writing.{no_lines, line_more}
use Rattle.report.proofs.Whole.{whole}
use Rattle.report.proofs.write.Goals as goal

pub loop-w-init : goal.loop-w-init
loop-w-init c = no_lines 24 _ _

pub loop-w-preserved : goal.loop-w-preserved
loop-w-preserved c =
    let m = memory_of (shared c.args.memory.now) in
    line_more (word_line m) (word-text m c.loop-w.w c.contents.ensures) c.loop-w.invariant c.line.ensures

pub loop-b-init : goal.loop-b-init
loop-b-init c = no_lines 112 _ _

pub loop-b-preserved : goal.loop-b-preserved
loop-b-preserved c = line_more (block_line (memory_of (shared c.args.memory.now))) refl c.loop-b.invariant c.block.ensures

pub loop-p-init : goal.loop-p-init
loop-p-init c = no_lines task_most _ _

pub loop-p-preserved : goal.loop-p-preserved
loop-p-preserved c =
    let ts = c.args.tasks.now in
    line_more (task_lines_of (map own ts)) (task_text ts c.loop-p.p refl) c.loop-p.invariant c.task.ensures

pub returns : goal.returns
returns c =
    let a = c.args in
    let text =
    whole (shared a.memory.now) (map own a.tasks.now) a.totals
    (omega (arith, c.min-words.ensures, c.loop-w-test.false, c.loop-w.auto.w-end))
    (omega (arith, c.min-b-end.ensures, c.loop-b-test.false, c.loop-b.auto.b-end))
    (omega (arith, c.min-p-end.ensures, c.loop-p-test.false, c.loop-p.auto.p-end))
    c.new-out.ensures.bytes c.new-out.ensures.place c.loop-w.invariant c.loop-b.invariant c.loop-p.invariant c.line-2.ensures
    in
    let same =
    c.line-2.ensures.same_reference
    ∙ c.loop-p.invariant.same_reference
    ∙ c.loop-b.invariant.same_reference
    ∙ c.loop-w.invariant.same_reference
    ∙ c.new-out.ensures.same_reference
    in
    search rules
