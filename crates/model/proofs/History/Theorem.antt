-- If every tick of a run justifies what it settles, the run is a sequence of whole operations, at every limit.
use Prim.Native.Nat.{ℕ, suc}
use mathlib.Core.Bool.{false}
use mathlib.Core.Path.{◌≡◌, refl, sym, ◌∙◌, ap, subst}
use mathlib.Core.List.{List}
use mathlib.Core.Option.{none}
use Rattle.model.specs.Lists.{at}
use Rattle.model.specs.Sheet.{Sheet, sheet_of}
use Rattle.model.specs.Machine.{Machine, task_at, Running, nobody, running, running_of, move}
use Rattle.model.specs.Start.{start_machine}
use Rattle.model.specs.Plain.{Contents}
use Rattle.model.specs.History.{History, operation_at, observed}
use Rattle.model.specs.Claim.{contents_of, WholeOperations}
use Rattle.model.proofs.History.Ordered.{Ordered, whole_operations}
use Rattle.model.proofs.History.Growth.{Settles, Course, course_ordered}
use Rattle.model.proofs.History.Steps.{state_after, arrived_at, history_after, state-next, history-next, stopped}
use Rattle.model.proofs.History.Moves.{Settling, settling, stays_outside}
use Rattle.model.proofs.History.Statement.{moves}
use Rattle.model.proofs.History.Ticks.{MachineLinked, Started, arrived-at, arrived-now, arrived_linked, advance}
use Rattle.model.proofs.Fit.Sheet.{SheetFit}
use Rattle.model.proofs.History.Start.{started, contents-start}
use Rattle.model.proofs.History.Justified.{Justified, settles}

-- what the statement of task p settles
abbrev pub settled_by : Machine → ℕ → Settling
settled_by m p = settling p m.memory (task_at m.tasks p).job.commands (task_at m.tasks p).job.phase

-- of tick u, the releases having arrived; an idle tick leaves the contents
abbrev JustifiedIn : (ℕ → Contents) → ℕ → Machine → History → Running → Type 0
JustifiedIn contents u m h nobody = contents u ≡ contents (suc u)
JustifiedIn contents u m h (running p) = Justified contents u p h (settled_by m p)

machine_settles : (contents : ℕ → Contents) {m : Machine} {h : History} → MachineLinked m h → (r : Running) → JustifiedIn contents m.now m h r
    → Settles contents m.now h (observed m r h)
unfolding observed
machine_settles contents {m} {h} g nobody w = settles contents m.now 0 h g.linked.size (stays_outside {b = false} {c = false}) tt w
machine_settles contents {m} {h} g (running p) w =
    settles contents m.now p h g.linked.size (moves p m.memory (task_at m.tasks p) (task_at m.tasks p).job.phase refl)
    (g.linked.opened p) w

idle-memory : (m : Machine) → (move m nobody).memory ≡ m.memory
unfolding move
idle-memory m = refl

-- the contents after t ticks
abbrev pub contents_after : Sheet → Machine → ℕ → Contents
contents_after s m t = contents_of s (state_after m t).memory

-- EVERY TICK OF THE RUN IS JUSTIFIED
pub record JustifiedRun (s : Sheet) (m : Machine) : Type 0 where
  pub justified : (t p : ℕ) → running_of (arrived_at m t) ≡ running p
      → Justified (contents_after s m) t p (history_after m t) (settled_by (arrived_at m t) p)

module _ (s : Sheet) {m : Machine} (start : Started m) (just : JustifiedRun s m) where
  still : (t : ℕ) → running_of (arrived_at m t) ≡ nobody → contents_after s m t ≡ contents_after s m (suc t)
  still t e =
      sym (ap (λ (n : Machine). contents_of s n.memory) (state-next m t) ∙ rw e (ap (contents_of s) (idle-memory (arrived_at m t) ∙ (arrived-at m t).memory)))

  justified_in : (t : ℕ) (r : Running) → running_of (arrived_at m t) ≡ r → JustifiedIn (contents_after s m) t (arrived_at m t) (history_after m t) r
  justified_in t nobody e = still t e
  justified_in t (running p) e = just.justified t p e

  pub tick_settles : (t : ℕ) → Settles (contents_after s m) t (history_after m t) (history_after m (suc t))
  tick_settles t =
      rw (history-next m t)
      (subst (λ (u : ℕ). Settles (contents_after s m) u (history_after m t) (observed (arrived_at m t) (running_of (arrived_at m t)) (history_after m t)))
      (arrived-now start t) (machine_settles (contents_after s m) (arrived_linked start t) (running_of (arrived_at m t)) now))
    where
      now : JustifiedIn (contents_after s m) (arrived_at m t).now (arrived_at m t) (history_after m t) (running_of (arrived_at m t))
      now =
          subst (λ (u : ℕ). JustifiedIn (contents_after s m) u (arrived_at m t) (history_after m t) (running_of (arrived_at m t)))
          (sym (arrived-now start t)) (justified_in t (running_of (arrived_at m t)) refl)

  none_yet : (a : ℕ) → operation_at (history_after m 0) a ≡ none
  unfolding at history_after
  none_yet a = refl

  course : Course (contents_after s m) (history_after m)
  course = record { empty = none_yet; advance = advance start; settles = tick_settles }

  -- after any number of ticks
  pub run_ordered : (t : ℕ) → Ordered (history_after m t) (contents_after s m 0) (contents_after s m t)
  run_ordered t = course_ordered (contents_after s m) course t

-- THE CLAIM
none_done : (s : Sheet) (m : Machine) → contents_after s m 0 ≡ contents_of s m.memory
unfolding state_after
none_done s m = refl

-- at every limit
pub whole : (sheet : List ℕ) (limit : ℕ) → SheetFit (sheet_of sheet) → JustifiedRun (sheet_of sheet) (start_machine (sheet_of sheet))
    → WholeOperations sheet limit
whole sheet limit c just =
    let r = stopped limit (start_machine (sheet_of sheet)) in
    whole_operations sheet limit r.history (sym (none_done (sheet_of sheet) (start_machine (sheet_of sheet)) ∙ contents-start c))
    (ap (λ (n : Machine). contents_of (sheet_of sheet) n.memory) r.state) (run_ordered (sheet_of sheet) (started c) just r.ticks)
