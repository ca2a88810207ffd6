-- The bytes of a text, one after another.
use Rattle.report.proofs.Writing.{nothing, byte_more}
use Rattle.report.proofs.text.Writer.copy.Goals as goal

pub loop-byte-init : goal.loop-byte-init
loop-byte-init c = nothing _

pub loop-byte-preserved : goal.loop-byte-preserved
loop-byte-preserved c = byte_more _ _ c.loop-byte-test.true c.loop-byte.invariant c.put.ensures
