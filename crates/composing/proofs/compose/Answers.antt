-- `compose` meets its contract.
use Rattle.std.proofs.Common.{ℕ, ◌+◌, sym, ap, ◌∙◌}
use Rattle.commands.specs.View.{view_refusal, view_command}
use Rattle.composing.specs.View.{view_state}
use Rattle.composing.proofs.Answer.{at-end, at-fault, when-full, when_taken, good_under}
use Rattle.composing.proofs.compose.Goals as goal

pub returns-then-state : goal.returns-then-state
returns-then-state c =
    let a = c.args in
    c.refused.ensures a.buffer.now ∙ at-end (view_state a.state) a.buffer.now (view_command a.values a.c) c.if-state.true

pub returns-in-Some : goal.returns-in-Some
returns-in-Some c =
    let a = c.args in
    c.refused-in-Some.ensures a.buffer.now
    ∙ at-fault (view_state a.state) a.buffer.now a.values a.c c.if-state.false (view_refusal c.in-Some.refusal) c.in-Some.ensures

pub returns-then-is_full : goal.returns-then-is_full
returns-then-is_full c =
    let a = c.args in
    let full = rw c.size-size.ensures at (sym c.if-is_full.true ∙ c.is_full.ensures) in
    c.refused-then-is_full.ensures a.buffer.now
    ∙ when-full (view_state a.state) a.buffer.now a.values a.c c.if-state.false c.in_default.ensures full

pub after-requires : goal.after-requires
after-requires c = good_under _ _ c.in_default.ensures

pub returns : goal.returns
returns c =
    let a = c.args in
    let size = c.size-size.ensures in
    let free = rw size at (sym c.if-is_full.false ∙ c.is_full.ensures) in
    when_taken (view_state a.state) a.buffer.now a.values a.c c.if-state.false c.in_default.ensures free (ap (λ (n : ℕ). a.state.filled + n) size)
    c.after.ensures c.is_end.ensures c.write.ensures
