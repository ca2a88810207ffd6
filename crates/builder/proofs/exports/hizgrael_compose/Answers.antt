-- `hizgrael_compose` meets its contract.
use Rattle.builder.proofs.Entries.{composes_taken, composes_refused}
use Rattle.builder.proofs.exports.hizgrael_compose.Goals as goal

pub returns-in-Ok : goal.returns-in-Ok
returns-in-Ok c =
    let a = c.args in
    composes_taken a.state.now a.buffer.now _ a.command a.operands.now c.unpack.result c.unpack.ensures c.in-Ok.next c.pack.result
    c.in-Ok.ensures c.pack.ensures

pub returns-in-Err : goal.returns-in-Err
returns-in-Err c =
    let a = c.args in
    composes_refused a.state.now a.buffer.now _ a.command a.operands.now c.unpack.result c.unpack.ensures c.in-Err.f c.into.ensures c.in-Err.ensures
