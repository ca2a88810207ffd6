-- THE END: what the run of the flat machine leaves is the model's final machine.
use Prim.Native.Nat.{ℕ, ◌-◌, ◌<◌, ◌≤◌}
use mathlib.Core.Path.{◌≡◌, refl, sym, ap, ◌∙◌, subst}
use mathlib.Core.List.{List, [], ◌∷◌}
use native.Mathlib.Omega.{arith}
use lib.ListN.{length, get_or, take}
use Rattle.model.specs.Lists.{at}
use Rattle.model.specs.Sheet.{Sheet, sheet_of, verdict, accepted}
use Rattle.model.specs.Job.{Task, count_list}
use Rattle.model.specs.Machine.{Machine, task_at, run}
use Rattle.model.specs.Start.{start_machine}
use Rattle.model.proofs.Fit.Start.{start_fit}
use Rattle.model.proofs.Fit.Accepted.{accepted_fit}
use Rattle.model.proofs.Fit.Machine.{Fit}
use Rattle.model.proofs.Fit.Ranges.{Ranges}
use Rattle.model.proofs.Fit.RangesStart.{start-range, sheet-range}
use Rattle.commands.specs.declared.BodyCommand.{BodyCommand}
use Rattle.state.specs.State.{Shared, Own, no_own}
use Rattle.state.specs.Held.{memory_of}
use Rattle.machine.specs.Flat.{Ends, flat_in, paused_at}
use Rattle.machine.specs.declared.run.Paused.{Paused}
use Rattle.program.specs.Program.{Programmed}
use Rattle.refinement.proofs.Releases.{releases_from}
use Rattle.refinement.proofs.Machine.{machine_of, task-at}
use Rattle.refinement.proofs.Run.{run_fits}
use Rattle.start.specs.Start.{SharedStarts, TasksStart}
use Rattle.refinement.proofs.Start.{no_queues, start-same, start-sound}

-- the records hold that machine of a sheet: its memory, and of each task that the sheet declares the registers and counts
pub record Holds (s : Sheet) (f : Machine) (m : Shared) (ts : List Own) (q : Paused) : Type 0 where
  pub memory : f.memory ≡ memory_of m
  pub registers : (p : ℕ) → p < length s.bodies → (task_at f.tasks p).job.registers ≡ (get_or ts p no_own).registers
  pub counts : (p : ℕ) → p < length s.bodies → count_list (task_at f.tasks p).counts ≡ take 5 (get_or ts p no_own).counts
  pub now : f.now ≡ q.ticks

-- the first five of a list
five : (l : List ℕ) → 5 ≤ length l → at 0 l 0 ∷ at 0 l 1 ∷ at 0 l 2 ∷ at 0 l 3 ∷ at 0 l 4 ∷ [] ≡ take 5 l
unfolding at
five (a ∷ b ∷ c ∷ d ∷ e ∷ l) h = refl
five [] h = absurd (omega arith)
five (a ∷ []) h = absurd (omega arith)
five (a ∷ b ∷ []) h = absurd (omega arith)
five (a ∷ b ∷ c ∷ []) h = absurd (omega arith)
five (a ∷ b ∷ c ∷ d ∷ []) h = absurd (omega arith)

module _ (sheet : List ℕ) (small : (i : ℕ) → get_or sheet i 0 < 256) (good : verdict sheet ≡ accepted) (limit : ℕ)
    (most : limit ≤ 65535) (program : List BodyCommand) (bounds : List ℕ) (held : Programmed sheet program bounds) (place : ℕ)
    (releases : releases_from sheet place ≡ (sheet_of sheet).releases) (m : Shared) (shared : SharedStarts (sheet_of sheet) m) (ts : List Own)
    (tasks : TasksStart ts) where
  pub final : (m' : Shared) (ts' : List Own) (q : Paused) → Ends sheet program bounds limit (flat_in m ts (paused_at place)) (flat_in m' ts' q)
      → Holds (sheet_of sheet) (run limit (start_machine (sheet_of sheet))) m' ts' q
  final m' ts' q e =
      let s = sheet_of sheet in
      let c = accepted_fit sheet good in
      let w = flat_in m ts (paused_at place) in
      let u = flat_in m' ts' q in
      let begin = start-same sheet program bounds held c place releases m shared ts tasks in
      let r = run_fits sheet program bounds held c limit (omega arith) no_queues w u e
      (start-sound sheet program bounds held c place releases m shared ts tasks) (subst (Fit s) (sym begin) (start_fit c))
      (subst Ranges (sym begin) (start-range c (sheet-range sheet small good))) in
      let z : limit - 0 ≡ limit = omega arith in
      let last : run limit (start_machine s) ≡ machine_of sheet program bounds r.queues u = sym (r.same ∙ rw z (ap (run limit) begin)) in
      record {
        memory = ap (λ (f : Machine). f.memory) last;
        registers = λ p h.
            ap (λ (f : Machine). (task_at f.tasks p).job.registers) last
            ∙ ap (λ (t : Task). t.job.registers) (task-at sheet program bounds c.bodies ts' q.jobs p h);
        counts = λ p h.
            ap (λ (f : Machine). count_list (task_at f.tasks p).counts) last
            ∙ ap (λ (t : Task). count_list t.counts) (task-at sheet program bounds c.bodies ts' q.jobs p h)
            ∙ five (get_or ts' p no_own).counts (omega (arith, (r.sound.each.sized p (omega (arith, c.bodies))).counts));
        now = ap (λ (f : Machine). f.now) last;
      }
