-- The run of the flat machine ends in the model's final machine.
use Prim.Native.Nat.{ℕ, zero, suc, ◌+◌, ◌-◌, ◌%◌, ◌<◌}
use mathlib.Core.Path.{◌≡◌, refl, sym, ap, ◌∙◌, subst}
use mathlib.Core.Logic.{◌≢◌}
use mathlib.Core.Bool.{Bool, true, false, true≢false, false≢true, ◌&&◌}
use mathlib.Core.List.{List, ◌∷◌}
use native.Mathlib.Omega.{arith}
use lib.Dec.{eqb}
use Rattle.std.specs.Prelude.{Some, None}
use lib.ListN.{length}
use borrow.Author.Tests.{eqb-true, eqb-false}
use Rattle.model.specs.Ceilings.{max_tasks}
use Rattle.model.specs.Command.{Release, command_at}
use Rattle.model.specs.Sheet.{Sheet, sheet_of}
use Rattle.model.specs.Lists.{at}
use Rattle.model.specs.Job as J
use Rattle.model.specs.Machine as M
use Rattle.model.proofs.Fit.Elements.{and_false}
use Rattle.model.proofs.Fit.Sheet.{SheetFit}
use Rattle.model.proofs.Fit.Machine.{Fit}
use Rattle.model.proofs.Fit.Running.{nobody-none}
use Rattle.model.proofs.Fit.Enter as Enter
use Rattle.model.proofs.Fit.Enter.{Entering, oldest, release_enters, NoneDue}
use Rattle.model.proofs.Fit.Waiting.{SettledAt, Settled, entering_settled, one_settled, release-entered, none-entered, oldest_entered}
use Rattle.model.proofs.Fit.Waiting.{none-waits, some-waits}
use Rattle.model.proofs.Fit.Releases.{declared-release, entering_fit}
use Rattle.model.proofs.Fit.Tick.{tick_fit}
use Rattle.model.proofs.Fit.Ranges.{Ranges}
use Rattle.model.proofs.Fit.RangesStatement.{entering-range, tick-range}
use Rattle.commands.specs.declared.BodyCommand.{BodyCommand}
use Rattle.exchanges.specs.Places.{if}
use Rattle.jobs.specs.Jobs.{dropped}
use Rattle.arrivals.specs.Releases.{pending_at, coming_of, stops_by}
use Rattle.arrivals.specs.declared.releases.Coming.{Coming}
use Rattle.arrivals.specs.declared.releases.Coming.TheVariants.{Nothing, Later, Due}
use Rattle.machine.specs.Flat.{top_of, FlatMachine, own_of, ticked_for, passed, coming_in, released, ticked}
use Rattle.machine.specs.Flat.{Ends, limited, stopped, arrives, moves}
use Rattle.program.specs.Program.{Programmed}
use Rattle.refinement.proofs.Releases.{releases_from, DueAt, ComingAt, coming-at}
use Rattle.refinement.proofs.Unfinished.{busy, Top, none, some, top}
use Rattle.refinement.proofs.Machine.{machine_of, ReadySound, none_ready, one_ready, Sound, task-at, task_busy, nobody-runs, top_runs}
use Rattle.refinement.proofs.Released.{starts_inside, ReleasedFits, released_fits, waited_fits}
use Rattle.refinement.proofs.Ticked.{ticked_fits}

-- THE RUN'S STEPS
run-over : (k : ℕ) (m : M.Machine) → M.over m ≡ true → M.run k m ≡ m
unfolding M.run M.run_by
run-over zero m e = refl
run-over (suc k) m e = rw e

run_none : (m : M.Machine) → M.run 0 m ≡ m
unfolding M.run
run_none m = refl

run_on : (k : ℕ) (m : M.Machine) → M.over m ≡ false → M.run (suc k) m ≡ M.run k (M.tick m)
unfolding M.run M.run_by
run_on k m e = rw e

module _ (sheet : List ℕ) (program : List BodyCommand) (bounds : List ℕ) (held : Programmed sheet program bounds)
    (c : SheetFit (sheet_of sheet)) where
  abbrev s : Sheet
  s = sheet_of sheet

  abbrev viewed : List (List Release) → FlatMachine → M.Machine
  viewed ws w = machine_of sheet program bounds ws w

  -- WHAT COMES NEXT: a release of the sheet while no job has ended with one waiting, else that one
  sheet_comes : (w : FlatMachine) → w.ready ≡ None → coming_in sheet w ≡ coming_of (pending_at (command_at sheet w.place)) w.ticks
  sheet_comes w h = rw h

  waiting_comes : (w : FlatMachine) (p : ℕ) → w.ready ≡ Some p → coming_in sheet w ≡ Due p w.place
  waiting_comes w p h = rw h

  sheet_coming : (w : FlatMachine) → w.ready ≡ None → ComingAt sheet w.place w.ticks (coming_in sheet w)
  sheet_coming w h = subst (ComingAt sheet w.place w.ticks) (sym (sheet_comes w h)) (coming-at sheet w.place w.ticks)

  -- WHETHER THE RUN IS OVER
  module _ (ws : List (List Release)) (w : FlatMachine) (g : Sound sheet program bounds ws w) where
    somebody : w.mask ≢ 0 → M.nobody? (M.running_of (viewed ws w)) ≡ false
    somebody d = go (subst (Top 8 w.jobs) (sym g.mask) (top w.jobs 8))
      where
        go : Top 8 w.jobs w.mask → M.nobody? (M.running_of (viewed ws w)) ≡ false
        go (none z f) = absurd (d z)
        go (some l h) =
            ap M.nobody?
            (top_runs sheet program bounds c.bodies (viewed ws w) w.tasks w.jobs refl g.each.idle (top_of 8 w.mask) h)

    nobody_works : w.mask ≡ 0 → M.running_of (viewed ws w) ≡ M.nobody
    nobody_works e = go (subst (Top 8 w.jobs) (sym g.mask) (top w.jobs 8))
      where
        go : Top 8 w.jobs w.mask → M.running_of (viewed ws w) ≡ M.nobody
        go (none z f) = nobody-runs sheet program bounds c.bodies (viewed ws w) w.tasks w.jobs refl g.each.idle f
        go (some l h) = absurd (omega arith)

    busy_on : w.mask ≢ 0 → M.over (viewed ws w) ≡ false
    unfolding M.over
    busy_on d = rw (somebody d) (and_false (M.none? (viewed ws w).releases && M.none_waits ws))

    release-on : (r : Release) (l : List Release) → releases_from sheet w.place ≡ r ∷ l → M.over (viewed ws w) ≡ false
    unfolding M.over
    release-on r l e = rw e

    waiting-on : M.none_waits ws ≡ false → M.over (viewed ws w) ≡ false
    unfolding M.over
    waiting-on e = rw (e, and_false (M.none? (viewed ws w).releases))

    over_by : Settled (viewed ws w) → (k : Coming) → ComingAt sheet w.place w.ticks k → stops_by k w.mask ≡ true → M.over (viewed ws w) ≡ true
    unfolding M.over
    over_by f Nothing e q =
        let idle = nobody_works (eqb-true w.mask 0 q) in
        rw (idle, none-waits ws (λ p. f p (nobody-none (viewed ws w) idle p)), e)
    over_by f Later e q = absurd (false≢true q)
    over_by f (Due task next) e q = absurd (false≢true q)

    on-by : (k : Coming) → ComingAt sheet w.place w.ticks k → stops_by k w.mask ≡ false → M.over (viewed ws w) ≡ false
    on-by Nothing e q = busy_on (eqb-false w.mask 0 q)
    on-by Later e q = release-on e.release e.others e.releases
    on-by (Due task next) e q = release-on e.release (releases_from sheet next) e.releases

    none-due : (k : Coming) → ComingAt sheet w.place w.ticks k → ((task next : ℕ) → k ≡ Due task next → ⊥)
        → NoneDue (viewed ws w) (releases_from sheet w.place)
    none-due Nothing e d = rw e tt
    none-due Later e d = rw e.releases e.later
    none-due (Due task next) e d = absurd (d task next refl)

  -- a task with an unfinished job shows in the mask
  mask-some : (ws : List (List Release)) (v : FlatMachine) → Sound sheet program bounds ws v → (p : ℕ) → p < length s.bodies → busy v.jobs p ≡ true
      → v.mask ≢ 0
  mask-some ws v g p h e z = go (subst (Top 8 v.jobs) (sym g.mask) (top v.jobs 8))
    where
      go : Top 8 v.jobs v.mask → ⊥
      go (none y f) = true≢false (sym e ∙ f p (omega (arith, c.bodies)))
      go (some l t) = omega arith

  -- WHAT COMES, AND A TICK, in the model's run: k more ticks from v are as many as `most` from w
  record Onward (k most : ℕ) (ws : List (List Release)) (w v : FlatMachine) : Type 0 where
    queues : List (List Release)
    sound : Sound sheet program bounds queues v
    fit : Fit s (viewed queues v)
    range : Ranges (viewed queues v)
    same : M.run k (viewed queues v) ≡ M.run most (viewed ws w)

  module _ (ws : List (List Release)) (w : FlatMachine) (g : Sound sheet program bounds ws w) (fit : Fit s (viewed ws w)) (range : Ranges (viewed ws w))
      (k : ℕ) where
    abbrev m : M.Machine
    m = viewed ws w

    few : (p : ℕ) → p < length s.bodies → at 0 (own_of w p).counts dropped < 4294967295
    few p h =
        let drops = ap (λ (t : J.Task). t.counts.dropped) (task-at sheet program bounds c.bodies w.tasks w.jobs p h) in
        omega (arith, fit.dropped p, drops)

    -- one thing has come, and the same is still to come
    come : (m' : M.Machine) (p next : ℕ) (below : p < length s.bodies) (v : FlatMachine) → Entering m m' → M.enter m' ≡ M.enter m → M.over m ≡ false
        → ReleasedFits sheet program bounds c.bodies ws w g p next (few p below) below (starts_inside sheet program bounds held c p below) m' v
        → Onward (suc k) (suc k) ws w v
    unfolding M.tick
    come m' p next below v step entered on f =
        let q = f.queues in
        let ticked-same : M.tick (viewed q v) ≡ M.tick m = ap M.move_any (ap M.enter f.same ∙ entered) in
        record {
          queues = q;
          sound = f.sound;
          fit = subst (Fit s) (sym f.same) (entering_fit c m m' step fit);
          range = subst Ranges (sym f.same) (entering-range m m' step range);
          same =
              run_on k (viewed q v) (busy_on q v f.sound (mask-some q v f.sound p below f.unfinished)) ∙ ap (M.run k) ticked-same
              ∙ sym (run_on k m on);
        }

    -- a release of the sheet
    release-step : Settled m → (task next : ℕ) → DueAt sheet w.place w.ticks task next → Onward (suc k) (suc k) ws w (released bounds w task next)
    release-step settled task next d =
        let r = d.release in
        let l = releases_from sheet next in
        let due : Enter.Due m r l = record { next = d.releases; now = d.now } in
        let h : r.task < length s.bodies = declared-release c fit due in
        let eight : task % 8 ≡ r.task = omega (arith, d.to, c.bodies) in
        let step = release_enters due in
        let after = (entering_settled step (record { size = fit.tasks; settled = settled })).settled in
        come (M.to_come (M.released r m) l) r.task next h (released bounds w task next) step
        (release-entered m settled r l d.releases d.now after) (release-on ws w g r l d.releases)
        (released_fits sheet program bounds c.bodies ws w g r.task next (few r.task h) h (starts_inside sheet program bounds held c r.task h) r settled task
        eight refl after)

    -- one that waited
    waiting-step : (p : ℕ) (r : Release) (l : List Release) → p < length s.bodies → busy w.jobs p ≡ false → M.waiting_at ws p ≡ r ∷ l
        → ((q : ℕ) → q ≢ p → SettledAt m q) → Onward (suc k) (suc k) ws w (released bounds w p w.place)
    unfolding M.oldest_by
    waiting-step p r l h idle queue others =
        let eight : p < max_tasks = omega (arith, c.bodies) in
        let u : M.unfinished_at m p ≡ false = task_busy sheet program bounds c.bodies w.tasks w.jobs p h ∙ idle in
        let is : M.start_oldest p m ≡ M.starting p (M.behind p l m) = rw (u, queue) in
        come (M.starting p (M.behind p l m)) p w.place h (released bounds w p w.place) (oldest p r l eight u queue)
        (ap M.enter (sym is) ∙ oldest_entered m p eight fit.tasks others) (waiting-on ws w g (some-waits ws p queue))
        (waited_fits sheet program bounds c.bodies ws w g p w.place (few p h) h (starts_inside sheet program bounds held c p h) l idle
        (rw queue (omega arith)) (subst Settled is (one_settled m p fit.tasks others eight)))

    tick-step : w.ready ≡ None → Settled m → w.ticks < 4294967295 → ((task next : ℕ) → coming_in sheet w ≡ Due task next → ⊥)
        → stops_by (coming_in sheet w) w.mask ≡ false → Onward k (suc k) ws w (ticked program bounds w)
    unfolding M.tick
    tick-step ready settled small due stops =
        let f = ticked_fits sheet program bounds held c ws w g ready settled fit range small in
        let coming = sheet_coming w ready in
        let here = none-entered m settled (none-due ws w g (coming_in sheet w) coming due) in
        let same : viewed ws (ticked program bounds w) ≡ M.tick m = f.same ∙ ap M.move_any (sym here) in
        record {
          queues = ws;
          sound = f.sound;
          fit = subst (Fit s) (sym same) (tick_fit c fit);
          range = subst Ranges (sym same) (tick-range c fit range);
          same = ap (M.run k) same ∙ sym (run_on k m (on-by ws w g (coming_in sheet w) coming stops));
        }

  one_more : (w : FlatMachine) → (ticked program bounds w).ticks ≡ w.ticks + 1
  unfolding ticked
  one_more w = by (eqb w.mask 0)
    where
      by : (b : Bool) → (if b (passed w) (ticked_for program bounds w (top_of 8 w.mask))).ticks ≡ w.ticks + 1
      by true = refl
      by false = refl

  -- THE WHOLE RUN
  pub record RunFits (limit : ℕ) (ws : List (List Release)) (w u : FlatMachine) : Type 0 where
    pub queues : List (List Release)
    pub same : machine_of sheet program bounds queues u ≡ M.run (limit - w.ticks) (machine_of sheet program bounds ws w)
    pub sound : Sound sheet program bounds queues u

  -- what is due comes
  module _ (ws : List (List Release)) (w : FlatMachine) (g : Sound sheet program bounds ws w) (fit : Fit s (viewed ws w)) (range : Ranges (viewed ws w))
      (k : ℕ) where
    arrival : (task next : ℕ) → coming_in sheet w ≡ Due task next → Onward (suc k) (suc k) ws w (released bounds w task next)
    arrival task next e = go g.ready
      where
        go : ReadySound sheet program bounds ws w → Onward (suc k) (suc k) ws w (released bounds w task next)
        go (none_ready h f) =
            release-step ws w g fit range k f task next (subst (ComingAt sheet w.place w.ticks) e (sheet_coming w h))
        go (one_ready p r l y h i q o) =
            let due : Due p w.place ≡ Due task next = sym (waiting_comes w p y) ∙ e in
            let same-task : p ≡ task = cc in
            let same_place : w.place ≡ next = cc in
            subst (λ (z : ℕ). Onward (suc k) (suc k) ws w (released bounds w task z)) same_place
            (subst (λ (z : ℕ). Onward (suc k) (suc k) ws w (released bounds w z w.place)) same-task (waiting-step ws w g fit range k p r l h i q o))

    -- where nothing is due no job has ended with one waiting
    unready : ((task next : ℕ) → coming_in sheet w ≡ Due task next → ⊥) → (w.ready ≡ None) × Settled (viewed ws w)
    unready d = go g.ready
      where
        go : ReadySound sheet program bounds ws w → (w.ready ≡ None) × Settled (viewed ws w)
        go (none_ready h f) = (h, f)
        go (one_ready p r l y h i q o) = absurd (d p w.place (waiting_comes w p y))

  stops_undue : (k : Coming) (mask : ℕ) → stops_by k mask ≡ true → (task next : ℕ) → k ≡ Due task next → ⊥
  stops_undue k mask e task next d = false≢true (rw d at e)

  pub run_fits : (limit : ℕ) → limit < 4294967296 → (ws : List (List Release)) (w u : FlatMachine) → Ends sheet program bounds limit w u
      → Sound sheet program bounds ws w → Fit s (machine_of sheet program bounds ws w)
      → Ranges (machine_of sheet program bounds ws w) → RunFits limit ws w u
  unfolding released
  run_fits limit small ws w u (limited l) g fit range =
      let z : limit - w.ticks ≡ 0 = omega arith in record { queues = ws; same = rw z (sym (run_none (viewed ws w))); sound = g }
  run_fits limit small ws w u (stopped e) g fit range =
      let none = unready ws w g fit range 0 (stops_undue (coming_in sheet w) w.mask e) in
      let over = over_by ws w g none.1 (coming_in sheet w) (sheet_coming w none.0) e in
      record { queues = ws; same = sym (run-over (limit - w.ticks) (viewed ws w) over); sound = g }
  run_fits limit small ws w u (arrives task next l e rest) g fit range =
      let o = arrival ws w g fit range (limit - suc w.ticks) task next e in
      let z : limit - w.ticks ≡ suc (limit - suc w.ticks) = omega arith in
      let r = run_fits limit small o.queues (released bounds w task next) u rest o.sound o.fit o.range in
      record { queues = r.queues; same = r.same ∙ rw z o.same; sound = r.sound }
  run_fits limit small ws w u (moves l due stops rest) g fit range =
      let none = unready ws w g fit range 0 due in
      let o = tick-step ws w g fit range (limit - (w.ticks + 1)) none.0 none.1 (omega arith) due stops in
      let z : limit - w.ticks ≡ suc (limit - (w.ticks + 1)) = omega arith in
      let r = run_fits limit small o.queues (ticked program bounds w) u rest o.sound o.fit o.range in
      let same = subst (λ (n : ℕ). viewed r.queues u ≡ M.run (limit - n) (viewed o.queues (ticked program bounds w))) (one_more w) r.same in
      record { queues = r.queues; same = same ∙ rw z o.same; sound = r.sound }
