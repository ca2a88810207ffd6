-- The flat machine at the start holds the model's start.
use Prim.Native.Nat.{ℕ, ◌<◌, ◌≤◌}
use mathlib.Core.Path.{◌≡◌, refl, sym, ap, ◌∙◌}
use mathlib.Core.Bool.{Bool}
use mathlib.Core.List.{List, []}
use native.Mathlib.Omega.{arith}
use lib.ListN.{length, get_or, replicate}
use lib.Seq.{ext_get_or}
use borrow.Author.Tests.{le-ltb}
use Rattle.model.specs.Lists.{at}
use Rattle.model.specs.Command.{Release}
use Rattle.model.specs.Sheet.{Sheet, sheet_of}
use Rattle.model.specs.Machine as M
use Rattle.model.specs.Start.{start_machine}
use Rattle.model.proofs.Lists.{at_default}
use Rattle.model.proofs.Fit.Elements.{below?}
use Rattle.model.proofs.Fit.Sheet.{SheetFit}
use Rattle.model.proofs.Fit.Start.{start_task, start-task, start_fit}
use Rattle.commands.specs.declared.BodyCommand.{BodyCommand}
use Rattle.state.specs.State.{Shared, Own, no_own}
use Rattle.machine.specs.Flat.{no_job, flat_in, paused_at}
use Rattle.jobs.specs.declared.Job.{Job}
use Rattle.program.specs.Program.{Programmed}
use Rattle.start.specs.Start.{SharedStarts, TasksStart}
use Rattle.refinement.proofs.Entered.{no_pairs}
use Rattle.refinement.proofs.Releases.{releases_from}
use Rattle.refinement.proofs.Unfinished.{mask_of}
use Rattle.refinement.proofs.Machine.{none_ready, declared_by, task_with, task_in, tasks_of, machine_of, Sound, tasks-size, any_task, task-at}

no-job : (p : ℕ) → get_or (replicate 8 no_job) p no_job ≡ no_job
unfolding at
no-job p = at_default no_job 8 p

-- none waits
abbrev pub no_queues : List (List Release)
no_queues = replicate 8 []

no_queue : (p : ℕ) → M.waiting_at no_queues p ≡ []
no_queue p = at_default {A = List Release} [] 8 p

module _ (sheet : List ℕ) (program : List BodyCommand) (bounds : List ℕ) (held : Programmed sheet program bounds) (c : SheetFit (sheet_of sheet))
    (place : ℕ) (releases : releases_from sheet place ≡ (sheet_of sheet).releases) (m : Shared) (shared : SharedStarts (sheet_of sheet) m)
    (ts : List Own) (tasks : TasksStart ts) where
  abbrev s : Sheet
  s = sheet_of sheet

  abbrev n : ℕ
  n = length s.bodies

  abbrev js : List Job
  js = replicate 8 no_job

  idle-start : (p : ℕ) → p < n → task_with sheet program bounds p no_job (get_or ts p no_own) ≡ start_task (at [] s.bodies p) p
  unfolding at
  idle-start p h =
      let f = tasks.each p (omega (arith, c.bodies)) in
      rw (held.bodies p h, f.registers, f.copies, f.counts, no_pairs (get_or ts p no_own).entries)

  declared-start : (p : ℕ) → p < n → M.task_at (tasks_of sheet program bounds ts js) p ≡ M.task_at (start_machine s).tasks p
  declared-start p h =
      task-at sheet program bounds c.bodies ts js p h
      ∙ ap (λ (j : Job). task_with sheet program bounds p j (get_or ts p no_own)) (no-job p) ∙ idle-start p h ∙ sym (start-task s p h)

  undeclared_start : (p : ℕ) → p < 8 → n ≤ p → M.task_at (tasks_of sheet program bounds ts js) p ≡ M.task_at (start_machine s).tasks p
  undeclared_start p l h =
      any_task sheet program bounds c.bodies ts js p l
      ∙ ap (λ (b : Bool). declared_by b (task_in sheet program bounds ts js p)) (le-ltb p n h)
      ∙ sym ((start_fit c).undeclared p h)

  start-tasks : tasks_of sheet program bounds ts js ≡ (start_machine s).tasks
  unfolding at
  start-tasks =
      let size = tasks-size sheet program bounds c.bodies ts js in
      ext_get_or M.no_task (tasks_of sheet program bounds ts js) (start_machine s).tasks (size ∙ sym (start_fit c).tasks)
      (λ p h. below? p n (λ l. declared-start p l) (λ l. undeclared_start p (omega arith) l))

  pub start-same : machine_of sheet program bounds no_queues (flat_in m ts (paused_at place)) ≡ start_machine (sheet_of sheet)
  unfolding start_machine
  start-same = rw (shared.memory, start-tasks, releases)

  pub start-sound : Sound sheet program bounds no_queues (flat_in m ts (paused_at place))
  unfolding mask_of
  start-sound =
      record {
        memory = shared.sized;
        each = record {
          tasks = tasks.size;
          sized = λ p h. (tasks.each p h).sized;
          jobs = refl;
          shape = λ p h. rw (no-job p) tt;
          idle = λ p h. rw (no-job p);
        };
        mask = refl;
        waiting = refl;
        ready = none_ready refl (λ p i. no_queue p);
      }
