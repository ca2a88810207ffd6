-- `run` meets its contract.
use Rattle.std.proofs.Common.{ℕ, ◌<◌, get_or, arith}
use Rattle.std.proofs.lemmas.Result.{err_from_is_err_and}
use Rattle.engine.proofs.Answers.{run-refused, run-too-high, run-too-short, run-written}
use Rattle.engine.proofs.run.Goals as goal

pub returns-then-too_high : goal.returns-then-too_high
returns-then-too_high c = run-too-high _ _ _ c.in_ok-accepted.ensures.outcome c.if-too_high.true

pub returns-then-room-needed : goal.returns-then-room-needed
returns-then-room-needed c =
    let small : (i : ℕ) → get_or c.args.sheet.now i 0 < 256 = λ i. omega (arith, c.type_inv.sheet i) in
    let ran = rw c.in_ok-accepted.ensures.same at c.run_accepted-needed.ensures in
    run-too-short _ _ _ small c.in_ok-accepted.ensures.outcome c.if-too_high.false ran c.if-room-needed.true

pub returns : goal.returns
returns c =
    let small : (i : ℕ) → get_or c.args.sheet.now i 0 < 256 = λ i. omega (arith, c.type_inv.sheet i) in
    let ran = rw c.in_ok-accepted.ensures.same at c.run_accepted-needed.ensures in
    run-written _ _ _ small c.in_ok-accepted.ensures.outcome c.if-too_high.false ran c.if-room-needed.false

pub returns-in_err-accepted : goal.returns-in_err-accepted
returns-in_err-accepted c =
    let p = err_from_is_err_and c.from_residual.result c.from_residual.ensures.1 in
    rw (p.1, p.2) (run-refused _ _ _ c.in_err-accepted.field-0.0 c.in_err-accepted.ensures.outcome)
