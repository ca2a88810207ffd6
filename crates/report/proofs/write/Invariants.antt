-- The lines of the numbers so far are written.
use Rattle.std.proofs.Common.{◌*◌, map}
use Rattle.model.specs.Report.{lines, word_line, block_line}
use Rattle.state.specs.State.{shared, own}
use Rattle.state.specs.Held.{memory_of}
use Rattle.report.specs.Writing.{Wrote}
use Rattle.report.specs.Text.{task_lines_of, task_most}
use Rattle.report.proofs.write.Given as goal

abbrev pub invariant-loop-w : goal.invariant-loop-w
invariant-loop-w l = Wrote (24 * l.w) (lines l.w 0 (word_line (memory_of (shared l.memory)))) l.initial.out l.out

abbrev pub invariant-loop-b : goal.invariant-loop-b
invariant-loop-b l = Wrote (112 * l.b) (lines l.b 0 (block_line (memory_of (shared l.memory)))) l.initial.out l.out

abbrev pub invariant-loop-p : goal.invariant-loop-p
invariant-loop-p l = Wrote (task_most * l.p) (lines l.p 0 (task_lines_of (map own l.tasks))) l.initial.out l.out
