-- `tasks` meets its contract.
use Rattle.std.proofs.Common.{get_or, ◌∙◌, rules}
use Rattle.std.proofs.Math.ListN.{length-map, get_or-map}
use Rattle.state.specs.State.{own, no_task}
use Rattle.start.specs.Start.{OwnStarts}
use Rattle.start.proofs.tasks.Goals as goal

pub returns : goal.returns
returns c =
    let made = c.from_fn.ensures.items in
    record {
      size = length-map c.from_fn.result own ∙ made.long;
      each = λ p less. let h = made.at p no_task less in
          let starts : OwnStarts p (own (get_or c.from_fn.result p no_task)) = search (rules, h.2) in
          rw (get_or-map own c.from_fn.result p no_task) starts;
    }
