-- `commit` meets its contract.
use Rattle.std.proofs.Common.{ℕ, sym, ap, ◌∙◌, arith}
use Rattle.state.specs.State.{own}
use Rattle.exchanges.specs.Places.{Noted, noted}
use Rattle.exchanges.specs.declared.exchange.Step.TheVariants.{Start}
use Rattle.jobs.specs.Jobs.{job}
use Rattle.jobs.specs.declared.Inner.TheVariants.{Committing}
use Rattle.jobs.specs.declared.Phase.TheVariants.{Transaction}
use Rattle.transactions.specs.Commits.{commit_by}
use Rattle.transactions.proofs.Walks.{nothing-touched, something_touched}
use Rattle.transactions.proofs.commits.commit.Goals as goal

pub returns-then-touched-eq0 : goal.returns-then-touched-eq0
unfolding commit_by
returns-then-touched-eq0 c = let t = own c.args.task.now in rw (
  nothing-touched t.blocks (sym c.touched.ensures ∙ c.if-touched-eq0.true),
  ← c.done.ensures,
)

pub returns-then-gathered : goal.returns-then-gathered
unfolding commit_by
returns-then-gathered c = let t = own c.args.task.now in let g = c.gather-gathered.ensures in rw (
  something_touched t.blocks (omega (arith, c.touched.ensures, c.if-touched-eq0.false)) (rw c.touched.ensures at c.touched.type_inv),
  ← g.spent,
  c.if-gathered.true,
  ← c.new.ensures,
  c.count.ensures,
  ap (λ (w : Noted ℕ). w.task) g.entries,
)

pub returns-else-gathered : goal.returns-else-gathered
unfolding commit_by
returns-else-gathered c = let a = c.args in let g = c.gather-gathered.ensures in rw (
  something_touched (own a.task.now).blocks (omega (arith, c.touched.ensures, c.if-touched-eq0.false)) (rw c.touched.ensures at c.touched.type_inv),
  ← g.spent,
  c.if-gathered.false,
  c.inner.ensures,
)
    (let j = a.job.now in
    ap (λ (w : Noted ℕ). noted (job (Transaction (Committing Start)) j.value j.at j.begin w.next j.used) w.task)
    g.entries)
