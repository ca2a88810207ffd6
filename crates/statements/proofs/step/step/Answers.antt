-- `step` meets its contract.
use Rattle.std.proofs.Common.{◌∙◌}
use Rattle.statements.proofs.Turns.{step-exchange, step-commit, step_other}
use Rattle.statements.proofs.step.step.Goals as goal

pub returns-in_default : goal.returns-in_default
returns-in_default c = c.other.ensures ∙ step_other _ _ _ _ _ c.in_default.ensures

pub returns-in-Exchange : goal.returns-in-Exchange
returns-in-Exchange c = step-exchange _ _ _ _ c.in-Some.ensures c.in-Exchange.is c.exchange_tick-exchanged.ensures c.swap_by.ensures

pub returns-in_default-phase : goal.returns-in_default-phase
returns-in_default-phase c = step-commit _ _ _ _ _ c.in-Some.ensures c.in_default-phase.not-Exchange
    c.exchange_tick-exchanged.ensures c.committed_by.ensures
