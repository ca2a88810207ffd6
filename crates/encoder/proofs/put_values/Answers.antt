-- One more value is written behind the first `i`.
use Rattle.std.proofs.Common.{ℕ, List, ◌*◌, ◌++◌, get_or, take, sym, ap, ◌∙◌, arith}
use Rattle.std.specs.Int.{to_be_bytes, w32}
use Rattle.encoder.specs.Operands.{fours, started}
use Rattle.encoder.proofs.Stores.{be_four, behind, fours_more, fours_take}
use Rattle.encoder.proofs.put_values.Goals as goal

pub loop-i-preserved : goal.loop-i-preserved
loop-i-preserved c =
    let l = c.loop-i in
    let b = c.args.buffer.now in
    let vs = c.args.values.now in
    let before = fours (take l.i vs) in
    let value = get_or vs l.i 0 in
    rw (fours_more vs l.i c.loop-i-test.true) (behind before (to_be_bytes w32 value) b l.buffer c.put.new.buffer (4 * l.i)
    (sym (fours_take vs l.i (omega arith))) l.invariant (rw c.to_be_bytes.ensures at c.put.ensures)
    ∙ ap (λ (y : List ℕ). started (before ++ y) b) (be_four value))
