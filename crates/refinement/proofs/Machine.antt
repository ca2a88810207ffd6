-- The model's machine that a flat machine holds, and what the view does not show.
use Prim.Native.Nat.{ℕ, suc, ◌<◌, ◌≤◌}
use mathlib.Core.Path.{◌≡◌, refl, sym, ap, ◌∙◌}
use mathlib.Core.Logic.{◌≢◌}
use mathlib.Core.Bool.{Bool, true, false, true≢false}
use mathlib.Core.List.{List, [], ◌∷◌, map}
use native.Mathlib.Omega.{arith}
use lib.Dec.{ltb}
use Rattle.std.specs.Prelude.{Some, None}
use lib.ListN.{length, get_or, set, length-set}
use lib.Seq.{get_or-set_same, get_or-set_other}
use borrow.Author.Tests.{lt-ltb, le-ltb}
use Rattle.model.specs.Lists.{at, replace}
use Rattle.model.specs.Command.{Release}
use Rattle.model.specs.Job as J
use Rattle.model.specs.Machine as M
use Rattle.model.specs.Sheet.{sheet_of}
use Rattle.model.proofs.Lists.{at-past, at_map, same?}
use Rattle.model.proofs.Fit.Elements.{below?}
use Rattle.model.proofs.Fit.Waiting.{SettledAt, Settled}
use Rattle.model.proofs.Fit.Running.{foremost_running, none-nobody}
use Rattle.model.proofs.Fit.Running.{busy as working}
use Rattle.commands.specs.declared.BodyCommand.{BodyCommand}
use Rattle.state.specs.State.{Own, no_own}
use Rattle.state.specs.Held.{memory_of}
use Rattle.arrivals.specs.Releases.{unfinished?}
use Rattle.machine.specs.Flat.{FlatMachine, no_job, waiting_count}
use Rattle.jobs.specs.declared.Phase.{Phase}
use Rattle.jobs.specs.declared.Job.{Job}
use Rattle.program.specs.Program.{body_in}
use Rattle.refinement.proofs.Tabulate.{tabulate, at_tabulate, length_tabulate, tabulate_replace}
use Rattle.refinement.proofs.View.{phase_of, task_of}
use Rattle.state.specs.Sized.{SharedSized, OwnSized}
use Rattle.refinement.proofs.Shape.{JobShape}
use Rattle.refinement.proofs.Releases.{releases_from}
use Rattle.refinement.proofs.Unfinished.{busy, mask_of, TopTask}

-- a task that the sheet declares, or none
abbrev pub declared_by : Bool → J.Task → J.Task
declared_by true t = t
declared_by false t = M.no_task

module _ (sheet : List ℕ) (program : List BodyCommand) (bounds : List ℕ) where
  -- how many tasks the sheet declares
  abbrev n : ℕ
  n = length (sheet_of sheet).bodies

  -- task p with that job and record
  abbrev pub task_with : ℕ → Job → Own → J.Task
  task_with p j t = task_of program (at 0 bounds (suc p)) (body_in program bounds p) j t

  abbrev pub task_in : List Own → List Job → ℕ → J.Task
  task_in ts js p = task_with p (get_or js p no_job) (get_or ts p no_own)

  unfoldable pub tasks_of : List Own → List Job → List J.Task
  tasks_of ts js = tabulate 8 (λ p. declared_by (ltb p n) (task_in ts js p))

  -- the code keeps how many wait, the model the releases ws themselves
  abbrev pub machine_of : List (List Release) → FlatMachine → M.Machine
  machine_of ws w =
      M.machine (memory_of w.memory) (tasks_of w.tasks w.jobs) ws (releases_from sheet w.place) w.ticks

  -- the records and jobs of eight tasks
  pub record TasksSound (ts : List Own) (js : List Job) : Type 0 where
    pub tasks : length ts ≡ 8
    pub sized : (p : ℕ) → p < 8 → OwnSized (get_or ts p no_own)
    pub jobs : length js ≡ 8
    pub shape : (p : ℕ) → p < n → JobShape (at 0 bounds (suc p)) (get_or js p no_job) (get_or ts p no_own) (get_or js p no_job).phase
    pub idle : (p : ℕ) → n ≤ p → busy js p ≡ false

  -- no job has ended with a release waiting, or that of one task has
  pub data ReadySound (ws : List (List Release)) (w : FlatMachine) : Type 0 where
    none_ready : w.ready ≡ None → Settled (machine_of ws w) → ReadySound ws w
    one_ready : (p : ℕ) (r : Release) (l : List Release) → w.ready ≡ Some p → p < n → busy w.jobs p ≡ false → M.waiting_at ws p ≡ r ∷ l
        → ((q : ℕ) → q ≢ p → SettledAt (machine_of ws w) q) → ReadySound ws w

  pub record Sound (ws : List (List Release)) (w : FlatMachine) : Type 0 where
    pub memory : SharedSized w.memory
    pub each : TasksSound w.tasks w.jobs
    pub mask : w.mask ≡ mask_of 8 w.jobs
    pub waiting : w.waiting ≡ map length ws
    pub ready : ReadySound ws w

  -- how many wait
  pub waiting-count : (ws : List (List Release)) (w : FlatMachine) → Sound ws w → (p : ℕ) → waiting_count w p ≡ length (M.waiting_at ws p)
  unfolding at
  waiting-count ws w f p = ap (λ (l : List ℕ). get_or l p 0) f.waiting ∙ at_map length [] ws p

  module _ (most : n ≤ 8) where
    pub tasks-size : (ts : List Own) (js : List Job) → length (tasks_of ts js) ≡ 8
    unfolding tasks_of
    tasks-size ts js = length_tabulate 8 _

    pub any_task : (ts : List Own) (js : List Job) (p : ℕ) → p < 8 → M.task_at (tasks_of ts js) p ≡ declared_by (ltb p n) (task_in ts js p)
    unfolding tasks_of
    any_task ts js p h = at_tabulate M.no_task 8 p (λ q. declared_by (ltb q n) (task_in ts js q)) h

    pub task-at : (ts : List Own) (js : List Job) (p : ℕ) → p < n → M.task_at (tasks_of ts js) p ≡ task_in ts js p
    task-at ts js p h = any_task ts js p (omega arith) ∙ ap (λ (b : Bool). declared_by b (task_in ts js p)) (lt-ltb p n h)

    -- one task changes
    module _ (ts : List Own) (js : List Job) (f : TasksSound ts js) (p : ℕ) (t : Own) (j : Job) (h : p < n) where
      pub job-set : get_or (set js p j) p no_job ≡ j
      job-set = get_or-set_same js p j no_job (omega (arith, f.jobs))

      own-set : get_or (set ts p t) p no_own ≡ t
      own-set = get_or-set_same ts p t no_own (omega (arith, f.tasks))

      pub tasks_changed : tasks_of (set ts p t) (set js p j) ≡ replace (tasks_of ts js) p (task_with p j t)
      unfolding tasks_of
      tasks_changed =
          tabulate_replace 8 (λ q. declared_by (ltb q n) (task_in ts js q)) (λ q. declared_by (ltb q n) (task_in (set ts p t) (set js p j) q)) p _
          (λ g. rw (lt-ltb p n h, job-set, own-set))
          (λ q g d. rw (get_or-set_other js p q j no_job d, get_or-set_other ts p q t no_own d))

      pub sound_changed : OwnSized t → JobShape (at 0 bounds (suc p)) j t j.phase → TasksSound (set ts p t) (set js p j)
      sound_changed z s =
          record {
            tasks = length-set ts p t ∙ f.tasks;
            sized = λ q l. same? q p (λ e. rw (e, own-set) z) (λ d. rw (get_or-set_other ts p q t no_own d) (f.sized q l));
            jobs = length-set js p j ∙ f.jobs;
            shape = λ q l. same? q p
                (λ e. rw (e, job-set, own-set) s)
                (λ d. rw (get_or-set_other js p q j no_job d, get_or-set_other ts p q t no_own d) (f.shape q l));
            idle = λ q l. ap (λ (x : Job). unfinished? x.phase) (get_or-set_other js p q j no_job (λ e. omega arith)) ∙ f.idle q l;
          }

    -- THE TASK THAT RUNS
    unfinished_view : (end : ℕ) (j : Job) (t : Own) (f : Phase) → M.unfinished (phase_of program end j t f) ≡ unfinished? f
    unfinished_view end j t Phase.Idle = refl
    unfinished_view end j t Phase.Plain = refl
    unfinished_view end j t (Phase.Read r w s) = refl
    unfinished_view end j t (Phase.Exchange r s) = refl
    unfinished_view end j t (Phase.Transaction s) = refl

    pub task_busy : (ts : List Own) (js : List Job) (p : ℕ) → p < n → working (tasks_of ts js) p ≡ busy js p
    task_busy ts js p h =
        ap (λ (t : J.Task). M.unfinished t.job.phase) (task-at ts js p h)
        ∙ unfinished_view (at 0 bounds (suc p)) (get_or js p no_job) (get_or ts p no_own) (get_or js p no_job).phase

    -- of a machine with these tasks
    module _ (m : M.Machine) (ts : List Own) (js : List Job) (is : m.tasks ≡ tasks_of ts js) (idle : (p : ℕ) → n ≤ p → busy js p ≡ false) where
      working_at : (q : ℕ) → q < 8 → working m.tasks q ≡ busy js q
      working_at q h =
          ap (λ (l : List J.Task). working l q) is
          ∙ below? q n (λ l. task_busy ts js q l)
          (λ l. ap (λ (t : J.Task). M.unfinished t.job.phase)
          (any_task ts js q h ∙ ap (λ (b : Bool). declared_by b (task_in ts js q)) (le-ltb q n l))
          ∙ sym (idle q l))

      working_none : (q : ℕ) → 8 ≤ q → working m.tasks q ≡ false
      working_none q h =
          ap (λ (l : List J.Task). working l q) is
          ∙ ap (λ (t : J.Task). M.unfinished t.job.phase) (at-past M.no_task (tasks_of ts js) q (omega (arith, tasks-size ts js)))

      pub nobody-runs : ((q : ℕ) → q < 8 → busy js q ≡ false) → M.running_of m ≡ M.nobody
      nobody-runs f = none-nobody m (λ q. below? q 8 (λ l. working_at q l ∙ f q l) (λ l. working_none q l))

      -- no higher task works, so whoever else works has a lower number
      lower : (p q : ℕ) → TopTask 8 js p → q ≢ p → working m.tasks q ≡ true → q < p
      lower p q t d u = below? q p (λ l. l) (λ l. absurd (true≢false (sym u ∙ idle_above (omega arith))))
        where
          idle_above : p < q → working m.tasks q ≡ false
          idle_above l = below? q 8 (λ g. working_at q g ∙ t.above q l g) (λ g. working_none q g)

      pub top_runs : (p : ℕ) → TopTask 8 js p → M.running_of m ≡ M.running p
      top_runs p t =
          foremost_running (record {
            below = omega (arith, ap length is, tasks-size ts js, t.below);
            unfinished = working_at p t.below ∙ t.unfinished;
            first = λ q d u. lt-ltb q p (lower p q t d u);
          })
