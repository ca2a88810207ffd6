-- `check` meets its contract.
use Rattle.std.proofs.Common.{ℕ, ◌<◌, get_or, arith}
use Rattle.engine.proofs.Answers.{returned}
use Rattle.engine.proofs.check.Goals as goal

pub returns : goal.returns
returns c =
    let small : (i : ℕ) → get_or c.args.sheet.now i 0 < 256 = λ i. omega (arith, c.type_inv.sheet i) in
    returned small _ c.check.ensures
