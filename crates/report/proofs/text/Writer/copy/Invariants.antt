-- The bytes before the index are written.
use Rattle.std.proofs.Common.{take}
use Rattle.report.specs.Writing.{Wrote}
use Rattle.report.proofs.text.Writer.copy.Given as goal

abbrev pub invariant-loop-byte : goal.invariant-loop-byte
invariant-loop-byte l = Wrote l.byte-index (take l.byte-index l.text) l.initial.self l.self
