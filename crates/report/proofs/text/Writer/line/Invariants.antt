-- The numbers so far are written, each after its space.
use Rattle.std.proofs.Common.{◌*◌, length}
use Rattle.report.specs.Writing.{Wrote}
use Rattle.report.proofs.Lines.{spaced}
use Rattle.report.proofs.text.Writer.line.Given as goal

abbrev pub invariant-loop-value : goal.invariant-loop-value
invariant-loop-value l = Wrote (11 * length l.yielded) (spaced l.yielded) l.initial.self l.self
