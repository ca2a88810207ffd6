-- `compose_handed` meets its contract.
use Rattle.std.proofs.Common.{◌∙◌}
use Rattle.composing.specs.View.{view_state}
use Rattle.builder.proofs.Answer.{when-named, unnamed_end, when-unnamed}
use Rattle.builder.proofs.compose_handed.Goals as goal

pub returns-in-Some : goal.returns-in-Some
returns-in-Some c =
    let a = c.args in
    when-named (view_state a.state) a.buffer.now c.in-Some.ensures (rw c.values.ensures at c.compose.ensures)

pub returns-then-state : goal.returns-then-state
returns-then-state c =
    let a = c.args in c.refused.ensures a.buffer.now ∙ unnamed_end (view_state a.state) a.buffer.now c.in_default.ensures c.if-state.true

pub returns : goal.returns
returns c =
    let a = c.args in c.refused-2.ensures a.buffer.now ∙ when-unnamed (view_state a.state) a.buffer.now c.in_default.ensures c.if-state.false
