-- A release that comes: a job starts, or it waits, or it is dropped and counted; and one that waited starts.
use Prim.Native.Nat.{ℕ, suc, ◌+◌, ◌-◌, ◌%◌, ◌^◌, ◌<◌, ◌≤◌}
use mathlib.Core.Path.{◌≡◌, refl, sym, ap, ◌∙◌, subst}
use mathlib.Core.Logic.{◌≢◌}
use mathlib.Core.Bool.{Bool, true, false, false≢true}
use mathlib.Core.List.{List, [], ◌∷◌, ◌++◌, map}
use native.Mathlib.Omega.{arith}
use lib.Dec.{ltb}
use Rattle.std.specs.Prelude.{None}
use lib.ListN.{length, set, length-append}
use lib.Seq.{set-get_or}
use Rattle.model.specs.Lists.{at, replace}
use Rattle.model.specs.Ceilings.{max_waiting}
use Rattle.model.specs.Command as C
use Rattle.model.specs.Job as J
use Rattle.model.specs.Machine as M
use Rattle.model.specs.Sheet.{sheet_of}
use Rattle.model.proofs.Lists.{map-replace}
use Rattle.model.proofs.Fit.Elements.{below?}
use Rattle.model.proofs.Fit.Waiting.{Settled}
use Rattle.model.proofs.Fit.Sheet.{BodyFit, SheetFit}
use Rattle.commands.specs.declared.BodyCommand.{BodyCommand}
use Rattle.state.specs.State.{Own, no_own}
use Rattle.state.specs.Held.{memory_of}
use Rattle.jobs.specs.Jobs.{job_at, dropped, counted}
use Rattle.arrivals.specs.Releases.{unfinished?, waiting_by, begun_by, zeroing, started_by, record_by}
use Rattle.machine.specs.Flat.{FlatMachine, flat, no_job, job_of, own_of, released}
use Rattle.jobs.specs.declared.Phase.TheVariants as Phase
use Rattle.jobs.specs.declared.Job.{Job}
use Rattle.program.specs.Program.{Programmed, body_in}
use Rattle.state.specs.Sized.{OwnSized}
use Rattle.refinement.proofs.Shape.{OutsideShape}
use Rattle.refinement.proofs.Sized.{registers-sized, counted-sized}
use Rattle.refinement.proofs.Counted.{shape_counted, counted-task}
use Rattle.refinement.proofs.Lines.{lines_none}
use Rattle.refinement.proofs.Entered.{no_pairs, none_unloaded}
use Rattle.refinement.proofs.Copied.{zeroed-size, zeroed-all}
use Rattle.refinement.proofs.Releases.{releases_from}
use Rattle.refinement.proofs.Unfinished.{busy, bit_of, mask_of, mask_below, mask-set}
use Rattle.refinement.proofs.Machine.{task_with, tasks_of, machine_of, none_ready, Sound, waiting-count, task-at, task_busy, job-set, tasks_changed, sound_changed}

-- A BODY IS NOT EMPTY, so that a job starts inside its body
some-command : {words blocks : ℕ} (l : List C.BodyCommand) → BodyFit words blocks l → l ≢ []
some-command [] f e = false≢true (rw f.start at f.faultless)
some-command (c ∷ l) f e = let z : ◌≡◌ {A = ℕ} 0 1 = cc in absurd (omega arith)

pub starts_inside : (sheet : List ℕ) (program : List BodyCommand) (bounds : List ℕ) → Programmed sheet program bounds → SheetFit (sheet_of sheet)
    → (p : ℕ) → p < length (sheet_of sheet).bodies → at 0 bounds p < at 0 bounds (suc p)
starts_inside sheet program bounds f c p h =
    below? (at 0 bounds p) (at 0 bounds (suc p)) (λ l. l)
    (λ l. let none = lines_none program f.size _ (f.within p h) _ l in
    absurd (some-command (at [] (sheet_of sheet).bodies p) (c.body p h) (sym (f.bodies p h) ∙ none)))

begun-mask : (m k b : ℕ) → k + 0 ≡ m + b → k < 256 → (m + b) % 4294967296 ≡ k
begun-mask m k b e h = omega arith

module _ (sheet : List ℕ) (program : List BodyCommand) (bounds : List ℕ) (most : length (sheet_of sheet).bodies ≤ 8) (ws : List (List C.Release))
    (w : FlatMachine) (f : Sound sheet program bounds ws w) (p next : ℕ) (few : at 0 (own_of w p).counts dropped < 4294967295)
    (below : p < length (sheet_of sheet).bodies) (inside : at 0 bounds p < at 0 bounds (suc p)) where
  abbrev m : M.Machine
  m = machine_of sheet program bounds ws w

  abbrev queue : List C.Release
  queue = M.waiting_at ws p

  -- those to come then
  abbrev coming : List C.Release
  coming = releases_from sheet next

  -- by: the job is unfinished; so many wait behind it
  abbrev released_if : Bool → ℕ → FlatMachine
  released_if b k =
      flat w.memory
      (set w.tasks p (record_by b k (own_of w p)))
      (set w.jobs p (started_by b (job_of w p) (at 0 bounds p)))
      (begun_by b w.mask p)
      (set w.waiting p (waiting_by b k))
      None
      next
      w.ticks

  -- it stands for the model's machine m', in which the releases ws' wait
  pub record ReleasedFits (m' : M.Machine) (v : FlatMachine) : Type 0 where
    pub queues : List (List C.Release)
    pub same : machine_of sheet program bounds queues v ≡ m'
    pub sound : Sound sheet program bounds queues v
    pub unfinished : busy v.jobs p ≡ true

  queue_changed : (l : List C.Release) {k : ℕ} → k ≡ length l → set w.waiting p k ≡ map length (replace ws p l)
  unfolding replace
  queue_changed l e = rw (f.waiting, e) (sym (map-replace length ws p l))

  queue_same : replace ws p queue ≡ ws
  unfolding at replace
  queue_same = set-get_or ws p []

  sized : OwnSized (own_of w p)
  sized = f.each.sized p (omega arith)

  -- THE JOB IS UNFINISHED: jobs stay, and so do the records but for the count of a drop
  same-tasks : set w.tasks p (own_of w p) ≡ w.tasks
  same-tasks = set-get_or w.tasks p no_own

  same-jobs : set w.jobs p (job_of w p) ≡ w.jobs
  same-jobs = set-get_or w.jobs p no_job

  abbrev dropped_one : Own
  dropped_one = counted (own_of w p) dropped

  drop-counted : tasks_of sheet program bounds (set w.tasks p dropped_one) (set w.jobs p (job_of w p)) ≡ (M.dropping p m).tasks
  drop-counted =
      tasks_changed sheet program bounds most w.tasks w.jobs f.each p dropped_one (job_of w p) below
      ∙ ap (replace m.tasks p)
      (counted-task J.dropped program (at 0 bounds (suc p)) (body_in program bounds p) (job_of w p) (own_of w p) sized.counts few
      ∙ ap (J.counting J.dropped) (sym (task-at sheet program bounds most w.tasks w.jobs p below)))

  dropped-release : busy w.jobs p ≡ true → ltb (length queue) max_waiting ≡ false → Settled (M.to_come (M.dropping p m) coming)
      → ReleasedFits (M.to_come (M.dropping p m) coming) (released_if true (length queue))
  dropped-release e room settled =
      let is : machine_of sheet program bounds ws (released_if true (length queue)) ≡ M.to_come (M.dropping p m) coming =
      rw room (ap (λ (ts : List J.Task). M.machine (memory_of w.memory) ts ws coming w.ticks) drop-counted) in
      record {
        queues = ws;
        same = is;
        sound = record {
          memory = f.memory;
          each =
              rw room (sound_changed sheet program bounds most w.tasks w.jobs f.each p dropped_one (job_of w p) below
              (counted-sized sized dropped)
              (shape_counted (own_of w p) dropped (at 0 bounds (suc p)) (job_of w p) (job_of w p).phase (f.each.shape p below)));
          mask = rw same-jobs f.mask;
          waiting = rw room (queue_changed queue refl ∙ ap (map length) queue_same);
          ready = none_ready refl (subst Settled (sym is) settled);
        };
        unfinished = rw same-jobs e;
      }

  waiting-release : busy w.jobs p ≡ true → ltb (length queue) max_waiting ≡ true → (r : C.Release)
      → Settled (M.to_come (M.behind p (queue ++ (r ∷ [])) m) coming)
      → ReleasedFits (M.to_come (M.behind p (queue ++ (r ∷ [])) m) coming) (released_if true (length queue))
  waiting-release e room r settled =
      let l = queue ++ (r ∷ []) in
      let is : machine_of sheet program bounds (replace ws p l) (released_if true (length queue)) ≡ M.to_come (M.behind p l m) coming =
      rw (room, same-tasks, same-jobs) in
      record {
        queues = replace ws p l;
        same = is;
        sound = record {
          memory = f.memory;
          each = rw (room, same-tasks, same-jobs) f.each;
          mask = rw same-jobs f.mask;
          waiting = rw room (queue_changed l (sym (length-append queue (r ∷ []))));
          ready = none_ready refl (subst Settled (sym is) settled);
        };
        unfinished = rw same-jobs e;
      }

  -- A JOB STARTS
  abbrev j : Job
  j = job_at Phase.Plain (at 0 bounds p) 0

  abbrev t : Own
  t = zeroing 8 (own_of w p)

  job-starts : task_with sheet program bounds p j t ≡ J.started (M.task_at (tasks_of sheet program bounds w.tasks w.jobs) p)
  job-starts =
      rw (
        task-at sheet program bounds most w.tasks w.jobs p below,
        zeroed-all 8 (own_of w p).registers sized.registers,
        no_pairs (own_of w p).entries,
      )

  start_shape : OutsideShape (at 0 bounds (suc p)) j t
  start_shape = record { in_body = inside; unloaded = none_unloaded (own_of w p).entries }

  -- and those in l go on waiting
  pub started-release : busy w.jobs p ≡ false → (l : List C.Release) → length queue - 1 ≡ length l
      → Settled (M.to_come (M.starting p (M.behind p l m)) coming)
      → ReleasedFits (M.to_come (M.starting p (M.behind p l m)) coming) (released_if false (length queue))
  started-release e l fewer settled =
      let here : p < length w.jobs = omega (arith, f.each.jobs) in
      let mask : mask_of 8 (set w.jobs p j) + bit_of (busy w.jobs p) (2 ^ p) ≡ mask_of 8 w.jobs + 2 ^ p =
      mask-set w.jobs p j here 8 (omega arith) in
      let sum : mask_of 8 (set w.jobs p j) + 0 ≡ mask_of 8 w.jobs + 2 ^ p = rw e at mask in
      let small = mask_below 8 (set w.jobs p j) in
      let is : machine_of sheet program bounds (replace ws p l) (released_if false (length queue)) ≡ M.to_come (M.starting p (M.behind p l m)) coming =
      ap (λ (ts : List J.Task). M.machine (memory_of w.memory) ts (replace ws p l) coming w.ticks)
      (tasks_changed sheet program bounds most w.tasks w.jobs f.each p t j below
      ∙ ap (replace (tasks_of sheet program bounds w.tasks w.jobs) p) job-starts) in
      record {
        queues = replace ws p l;
        same = is;
        sound = record {
          memory = f.memory;
          each =
              sound_changed sheet program bounds most w.tasks w.jobs f.each p t j below
              (registers-sized sized _ (zeroed-size 8 (own_of w p).registers ∙ sized.registers)) start_shape;
          mask = rw f.mask (begun-mask _ _ _ sum small);
          waiting = queue_changed l fewer;
          ready = none_ready refl (subst Settled (sym is) settled);
        };
        unfinished = ap (λ (x : Job). unfinished? x.phase) (job-set sheet program bounds most w.tasks w.jobs f.each p t j below);
      }

  -- A RELEASE OF THE SHEET, to a machine in which none waits behind a job that has ended
  sheet-release : (r : C.Release) → Settled m → (b room : Bool) → busy w.jobs p ≡ b → ltb (length queue) max_waiting ≡ room → r.task ≡ p
      → Settled (M.to_come (M.released_to (M.fate_by b room m.now) r m) coming)
      → ReleasedFits (M.to_come (M.released_to (M.fate_by b room m.now) r m) coming) (released_if b (length queue))
  unfolding M.released_to
  sheet-release r settled true true e k to after =
      let is : M.to_come (M.behind p (queue ++ (r ∷ [])) m) coming ≡ M.to_come (M.released_to M.waits r m) coming =
      ap (λ (q : ℕ). M.to_come (M.behind q (M.waiting_at ws q ++ (r ∷ [])) m) coming) (sym to) in
      subst (λ (z : M.Machine). ReleasedFits z (released_if true (length queue))) is (waiting-release e k r (subst Settled (sym is) after))
  sheet-release r settled true false e k to after =
      let is : M.to_come (M.dropping p m) coming ≡ M.to_come (M.released_to M.neither r m) coming =
      ap (λ (q : ℕ). M.to_come (M.dropping q m) coming) (sym to) in
      subst (λ (z : M.Machine). ReleasedFits z (released_if true (length queue))) is (dropped-release e k (subst Settled (sym is) after))
  sheet-release r settled false room e k to after =
      let none : queue ≡ [] = settled p (task_busy sheet program bounds most w.tasks w.jobs p below ∙ e) in
      let stays : M.behind p [] m ≡ m = ap (λ (l : List (List C.Release)). M.machine m.memory m.tasks l m.releases m.now)
      (ap (replace ws p) (sym none) ∙ queue_same) in
      let is : M.to_come (M.starting p (M.behind p [] m)) coming ≡ M.to_come (M.starting r.task m) coming =
      rw to (ap (λ (z : M.Machine). M.to_come (M.starting p z) coming) stays) in
      subst (λ (z : M.Machine). ReleasedFits z (released_if false (length queue))) is
      (started-release e [] (rw none refl) (subst Settled (sym is) after))

  -- as the code does it
  released-is : (task : ℕ) → task % 8 ≡ p → released bounds w task next ≡ released_if (busy w.jobs p) (length queue)
  unfolding released
  released-is task e = rw (e, waiting-count sheet program bounds ws w f p)

  pub released_fits : (r : C.Release) → Settled m → (task : ℕ) → task % 8 ≡ p → r.task ≡ p → Settled (M.to_come (M.released r m) coming)
      → ReleasedFits (M.to_come (M.released r m) coming) (released bounds w task next)
  released_fits r settled task e to after =
      let u : M.unfinished_at m r.task ≡ busy w.jobs p = rw to (task_busy sheet program bounds most w.tasks w.jobs p below) in
      let k : M.room_at m r.task ≡ ltb (length queue) max_waiting = rw to refl in
      rw (released-is task e, u, k)
      (sheet-release r settled (busy w.jobs p) (ltb (length queue) max_waiting) refl refl to (rw (u, k) at after))

  -- ONE THAT WAITED
  pub waited_fits : (l : List C.Release) → busy w.jobs p ≡ false → length queue - 1 ≡ length l
      → Settled (M.to_come (M.starting p (M.behind p l m)) coming)
      → ReleasedFits (M.to_come (M.starting p (M.behind p l m)) coming) (released bounds w p next)
  waited_fits l e fewer settled =
      let eight : p % 8 ≡ p = omega arith in
      rw (released-is p eight, e) (started-release e l fewer settled)
