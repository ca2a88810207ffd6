-- `keep` meets its contract.
use Rattle.std.proofs.Common.{sym, ap, ◌∙◌}
use Rattle.state.specs.State.{own, with_kept}
use Rattle.jobs.proofs.Copied.{copied_all}
use Rattle.jobs.proofs.keep.Goals as goal

pub returns : goal.returns
returns c = let size = c.keep.ensures.sized in c.keep.ensures.kept ∙ ap (with_kept (own c.args.task.now)) (sym (copied_all 8 _ _ size.0 size.1))
