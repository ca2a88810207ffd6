-- `run` meets its contract.
use Prim.Native.Nat.{◌<◌, ◌+◌}
use mathlib.Core.Bool.{true}
use lib.ListN.{get_or, length-set}
use Rattle.model.specs.Lists.{at}
use Rattle.arrivals.proofs.Pending.{due_less}
use Rattle.machine.specs.Flat.{no_job, limited}
use Rattle.machine.proofs.Idle.{idled_ticks}
use Rattle.machine.proofs.Runs.{release-turn, after-release, after_stop}
use Rattle.machine.proofs.Runs.{came, begin-statement, step-statement, until_limit, until_due, none-ready, goes_before, stretch}
use mathlib.Core.Path.{◌≡◌, refl, sym, ◌∙◌}
use native.Mathlib.Omega.{arith}
use Rattle.machine.proofs.run.run.Goals as goal
use Rattle.machine.proofs.run.run.Goals.{then-starting, else-starting}

pub loop-tick-smaller-in-Due : goal.loop-tick-smaller-in-Due
loop-tick-smaller-in-Due c =
    let l = c.loop-tick in
    let less = due_less _ l.place l.tick _ _ l.ready l.next l.invariant.pending c.coming_at-release.ensures c.in-Due.is in
    omega (arith, less, c.loop-tick-test)

pub loop-tick-preserved-in-Due : goal.loop-tick-preserved-in-Due
unfolding at
loop-tick-preserved-in-Due c =
    let l = c.loop-tick in record {
      jobs_size = length-set l.jobs _ c.start_by.new.job ∙ l.invariant.jobs_size;
      waiting_size = length-set l.waiting _ c.wait_by.result ∙ l.invariant.waiting_size;
      pending = c.pending_at-next-in-Due.ensures;
      ends = λ u e. l.invariant.ends u
          (after-release _ _ _ _ _ l.next l.invariant.pending _ _ _ c.loop-tick-test.true
          c.coming_at-release.ensures c.in-Due.is
          (release-turn _ _ l.tasks l.jobs _ l.waiting _ _ _ _ _ _ c.drop_by.new.task
          c.zero_by.new.task refl c.wait_by.ensures c.begun-mask.ensures c.drop_by.ensures
          c.zero_by.ensures refl c.start_by.ensures) u e);
    }

pub returns-then-stops : goal.returns-then-stops
returns-then-stops c = let l = c.loop-tick in record {
  ends = l.invariant.ends _ (after_stop _ _ _ _ _ l.next l.invariant.pending c.coming_at-release.ensures
      (sym c.stops.ensures ∙ c.if-stops.true));
  jobs = l.invariant.jobs_size;
  waiting = l.invariant.waiting_size;
}

pub loop-tick-preserved-then-mask-eq0 : goal.loop-tick-preserved-then-mask-eq0
loop-tick-preserved-then-mask-eq0 c = let l = c.loop-tick in record {
  jobs_size = l.invariant.jobs_size;
  waiting_size = l.invariant.waiting_size;
  pending = l.invariant.pending;
  ends = λ u e. l.invariant.ends u
      (idled_ticks _ _ _ _ _ _ l.jobs _ _ l.ready l.place l.next l.invariant.pending c.if-mask-eq0.true u
      l.tick c.loop-tick-test.true c.coming_at-release.ensures
      c.in_default.not-Due (sym c.stops.ensures ∙ c.if-stops.false)
      c.idled-tick.ensures e);
}

pub loop-busy-preserved : goal.loop-busy-preserved
unfolding at
loop-busy-preserved c =
    let l = c.loop-tick in
    let g = c.loop-busy in
    let on = rw c.loop-busy-test.true at g.invariant.ends in
    let none = none-ready l.ready l.place l.next g.tick (g.invariant.undue c.loop-busy-test.true) in
    let before : c.goes_on-busy.result ≡ true → g.tick + 1 < c.until-until.result =
    λ h. goes_before (get_or c.if-starting.jobs _ no_job).phase _ _ c.goes_on-busy.ensures h in record {
      within = λ h. until_limit _ _ l.next (rw c.until-until.ensures at (before h));
      undue = λ h. until_due _ _ l.next l.place none (rw c.until-until.ensures at (before h));
      jobs_size = elim c.if-starting.branch [
        | then-starting w ↦ rw w.jobs-is (length-set g.jobs _ w.begin_tick.new.job ∙ g.invariant.jobs_size)
        | else-starting w ↦ rw w.jobs-is (length-set g.jobs _ w.step_tick.new.job ∙ g.invariant.jobs_size)
      ];
      onward = omega (arith, g.invariant.onward);
      later = λ h. omega (arith, g.invariant.onward);
      ends = λ u e. elim c.if-starting.branch [
        | then-starting w ↦
            on u (stretch _ _ _ _ _ g.tasks g.jobs _ l.waiting l.ready _ _ _ l.next w.begin_tick.new.task
            c.until-until.result c.if-mask-eq0.false c.top-p.ensures.highest
            (omega (arith, c.top-p.ensures.in_range, g.invariant.jobs_size)) refl (g.invariant.within c.loop-busy-test.true) l.invariant.pending
            (g.invariant.undue c.loop-busy-test.true) w.tasks-is w.jobs-is
            (came _ w.begin_tick.new.task w.memory-is w.begin_tick.ensures
            (begin-statement _ _ _ _ _ (sym c.starting.ensures ∙ w.if-starting.true) w.line.ensures.value refl))
            c.goes_on-busy.ensures u e)
        | else-starting w ↦
            on u (stretch _ _ _ _ _ g.tasks g.jobs _ l.waiting l.ready _ _ _ l.next w.step_tick.new.task
            c.until-until.result c.if-mask-eq0.false c.top-p.ensures.highest
            (omega (arith, c.top-p.ensures.in_range, g.invariant.jobs_size)) refl (g.invariant.within c.loop-busy-test.true) l.invariant.pending
            (g.invariant.undue c.loop-busy-test.true) w.tasks-is w.jobs-is
            (came _ w.step_tick.new.task w.memory-is w.step_tick.ensures
            (step-statement _ _ _ _ _ (sym c.starting.ensures ∙ w.if-starting.false)))
            c.goes_on-busy.ensures u e)
      ];
    }

pub returns-after-loop-tick-clause-ends : goal.returns-after-loop-tick-clause-ends
returns-after-loop-tick-clause-ends c = let l = c.loop-tick in l.invariant.ends _ (limited c.loop-tick-test.false)
