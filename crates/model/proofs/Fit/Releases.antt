-- What comes before a tick's statement keeps a machine well formed: a waiting release starts, a release arrives.
use Prim.Native.Nat.{ℕ, suc, ◌+◌, ◌<◌, ◌≤◌, zero}
use mathlib.Core.Path.{◌≡◌, refl, sym, ◌∙◌, ap, subst}
use mathlib.Core.Bool.{false, false≢true}
use mathlib.Core.List.{List, [], ◌∷◌, ◌++◌}
use native.Mathlib.Omega.{arith}
use lib.ListN.{length, length-append}
use lib.Dec.{eqb}
use borrow.Author.Tests.{eqb-false}
use Rattle.model.specs.Lists.{at, replace}
use Rattle.model.specs.Command.{Release, BodyCommand}
use Rattle.model.specs.Fault.{Body}
use Rattle.model.specs.Sheet.{Sheet}
use Rattle.model.specs.Job.{Task, dropped, counting, started}
use Rattle.model.specs.Machine.{no_task, task_at, waiting_at, Machine, starting, start_waiting, enter}
use Rattle.model.proofs.Lists.{replace-same, replace-other, length-replace, same?}
use Rattle.model.proofs.Fit.Elements.{below?, replace-all}
use Rattle.model.proofs.Fit.Body.{Faultless}
use Rattle.model.proofs.Fit.Sheet.{BodyFit, SheetFit, ReleasesFit, release_at}
use Rattle.model.proofs.Fit.Machine.{OutsideFit, PlainFit, TaskFit, DeclaredFit, WaitingFit, Fit}
use Rattle.model.proofs.Fit.Outside.{no_entries, no_unloaded}
use Rattle.model.proofs.Fit.Enter.{Due, Entering, oldest, starts, waits, drops, along, NoneDue, arrive-all, entered}

-- TASKS
-- a body is not empty and starts outside a transaction with no PAIR waiting
body-start : {words blocks : ℕ} (l : List BodyCommand) → BodyFit words blocks l → PlainFit words blocks l []
body-start {words} {blocks} l b = go l b.faultless
  where
    outside : {l : List BodyCommand} → Faultless b.known l → OutsideFit words blocks l []
    outside f = record {
      known = b.known;
      opened = b.opened;
      outside = ap (λ (z : Body). z.inside) b.start;
      waiting = ap (λ (z : Body). z.pairs) b.start;
      faultless = f;
      pairs = no_entries 0 words;
      unloaded = no_unloaded;
    }

    go : (l : List BodyCommand) → Faultless b.known l → PlainFit words blocks l []
    go [] f = absurd (false≢true (rw b.start at f))
    go (c ∷ l) f = record { command = c; others = l; commands = refl; outside = outside f }

-- a job starts
pub started_fit : {words blocks now : ℕ} {text : List BodyCommand} {t : Task} → BodyFit words blocks text → TaskFit words blocks text now t
    → TaskFit words blocks text now (started t)
started_fit {words} {blocks} {t = t} b f =
    record {
      body = f.body;
      registers = refl;
      copies = f.copies;
      counts = f.counts;
      ticks = f.ticks;
      phase = subst (λ (l : List BodyCommand). PlainFit words blocks l []) (sym f.body) (body-start _ b);
    }

-- a release to it is dropped
dropped_fit : {words blocks now : ℕ} {text : List BodyCommand} {t : Task} → TaskFit words blocks text now t
    → TaskFit words blocks text now (counting dropped t)
dropped_fit f =
    record { body = f.body; registers = f.registers; copies = f.copies; counts = f.counts; ticks = f.ticks; phase = f.phase }

-- the tasks of a machine
pub record TasksFit (s : Sheet) (now : ℕ) (ts : List Task) : Type 0 where
  pub size : length ts ≡ 8
  pub task : (p : ℕ) → p < length s.bodies → DeclaredFit s now p (task_at ts p)
  pub undeclared : (p : ℕ) → length s.bodies ≤ p → task_at ts p ≡ no_task

module _ {s : Sheet} (c : SheetFit s) where
  -- one declared task changes, the others stay at the same tick or come to the next
  pub changed_fit : {now later : ℕ} {ts : List Task} → TasksFit s now ts → ((p : ℕ) → p < length s.bodies → DeclaredFit s later p (task_at ts p))
      → (p : ℕ) → p < length s.bodies → {t : Task} → DeclaredFit s later p t → TasksFit s later (replace ts p t)
  changed_fit {later = later} {ts} f others p h {t} g =
      let l : p < length ts = omega (arith, f.size, c.bodies) in
      record {
        size = length-replace ts p t ∙ f.size;
        task = λ q k. same? q p
            (λ e. subst (λ (z : ℕ). DeclaredFit s later z (task_at (replace ts p t) z)) (sym e)
            (subst (λ (z : Task). DeclaredFit s later p z) (sym (replace-same no_task ts p t l)) g))
            (λ d. subst (λ (z : Task). DeclaredFit s later q z) (sym (replace-other no_task ts p q t d)) (others q k));
        undeclared = λ q k. replace-other no_task ts p q t (λ e. omega arith) ∙ f.undeclared q k;
      }

-- RELEASES
no_releases : (n now : ℕ) → ReleasesFit n now []
no_releases n now =
    record { task = λ i (h : i < 0). absurd (omega arith); rising = λ i j l (h : j < 0). absurd (omega arith); later = λ i (h : i < 0). absurd (omega arith) }

first-task : {n now : ℕ} {r : Release} {l : List Release} → ReleasesFit n now (r ∷ l) → r.task < n
unfolding at
first-task f = f.task 0 (omega arith)

-- without the first
others_fit : {n now : ℕ} {r : Release} {l : List Release} → ReleasesFit n now (r ∷ l) → ReleasesFit n now l
unfolding at
others_fit f = record {
  task = λ i h. f.task (suc i) (omega arith);
  rising = λ i j l h. f.rising (suc i) (suc j) (omega arith) (omega arith);
  later = λ i h. f.later (suc i) (omega arith);
}

-- where the first is not for this tick, none is
none-now : {n now : ℕ} {r : Release} {l : List Release} → eqb r.tick now ≡ false → ReleasesFit n now (r ∷ l) → ReleasesFit n (suc now) (r ∷ l)
unfolding at
none-now {n} {now} {r} {l} e f =
    let d = eqb-false r.tick now e in
    let first = f.later 0 (omega arith) in
    record { task = f.task; rising = f.rising; later = later d first }
  where
    later : (r.tick ≡ now → ⊥) → now ≤ r.tick → (i : ℕ) → i < suc (length l) → suc now ≤ (release_at (r ∷ l) i).tick
    later d h zero k = omega arith
    later d h (suc i) k = let o = (f.rising 0 (suc i) (omega arith) k).tick in omega arith

pub tasks-of : {s : Sheet} {m : Machine} → Fit s m → TasksFit s m.now m.tasks
tasks-of f = record { size = f.tasks; task = f.task; undeclared = f.undeclared }

-- those that wait behind the job of a declared task change
behind_fit : {n : ℕ} {ws : List (List Release)} → WaitingFit n ws → n ≤ 8 → (p : ℕ) → p < n → (l : List Release) → length l ≤ 4
    → WaitingFit n (replace ws p l)
behind_fit {ws = ws} f few p h l most = record {
  size = length-replace ws p l ∙ f.size;
  most = λ q. same? q p
      (λ e. rw (e, replace-same [] ws p l (omega (arith, f.size))) most)
      (λ d. rw (replace-other [] ws p q l d) (f.most q));
  undeclared = λ q k. replace-other [] ws p q l (λ e. omega arith) ∙ f.undeclared q k;
}

-- ONE THING THAT COMES BEFORE A STATEMENT
module _ {s : Sheet} (c : SheetFit s) where
  abbrev n : ℕ
  n = length s.bodies

  -- a job of a declared task starts
  starting_fit : {m : Machine} → Fit s m → (p : ℕ) → p < n → TasksFit s m.now (starting p m).tasks
  starting_fit f p h = changed_fit c (tasks-of f) f.task p h (started_fit (c.body p h) (f.task p h))

  -- the first release has come
  module _ {m : Machine} (f : Fit s m) {r : Release} {l : List Release} (d : Due m r l) where
    all_fit : ReleasesFit n m.now (r ∷ l)
    all_fit = subst (ReleasesFit n m.now) d.next f.releases

    pub declared-release : r.task < n
    declared-release = first-task all_fit

    fewer : (p : ℕ) → (task_at m.tasks p).counts.dropped + suc (length l) ≤ 256
    fewer p = omega (arith, f.dropped p, ap length d.next)

  -- drops and releases to come are together no more than the sheet's releases
  abbrev FewDrops : List Release → Task → Type 0
  FewDrops l t = t.counts.dropped + length l ≤ 256

  pub entering_fit : (m m' : Machine) → Entering m m' → Fit s m → Fit s m'
  entering_fit m m' (oldest p r l h u w) f =
      let k : p < n = below? p n (λ k. k) (λ k. absurd (some (sym w ∙ f.waiting.undeclared p k))) in
      let ts = starting_fit f p k in
      record {
        memory = f.memory;
        tasks = ts.size;
        task = ts.task;
        undeclared = ts.undeclared;
        waiting = behind_fit f.waiting c.bodies p k l (omega (arith, f.waiting.most p, ap length w));
        releases = f.releases;
        dropped = replace-all no_task (FewDrops m.releases) m.tasks p _ (f.dropped p) f.dropped;
      }
    where
      some : r ∷ l ≡ [] → ⊥
      some e = let z = ap length e in omega arith
  entering_fit m m' (starts r l d u) f =
      let ts = starting_fit f r.task (declared-release f d) in
      record {
        memory = f.memory;
        tasks = ts.size;
        task = ts.task;
        undeclared = ts.undeclared;
        waiting = f.waiting;
        releases = others_fit (all_fit f d);
        dropped = replace-all no_task (FewDrops l) m.tasks r.task _ (omega (arith, fewer f d r.task)) (λ q. omega (arith, fewer f d q));
      }
  entering_fit m m' (waits r l d u k) f =
      let ws = waiting_at m.waiting r.task in
      record {
        memory = f.memory;
        tasks = f.tasks;
        task = f.task;
        undeclared = f.undeclared;
        waiting =
            behind_fit f.waiting c.bodies r.task (declared-release f d) (ws ++ (r ∷ []))
            (omega (arith, k, length-append ws (r ∷ [])));
        releases = others_fit (all_fit f d);
        dropped = λ q. omega (arith, fewer f d q);
      }
  entering_fit m m' (drops r l d u k) f =
      let h = declared-release f d in
      let ts = changed_fit c (tasks-of f) f.task r.task h (dropped_fit (f.task r.task h)) in
      record {
        memory = f.memory;
        tasks = ts.size;
        task = ts.task;
        undeclared = ts.undeclared;
        waiting = f.waiting;
        releases = others_fit (all_fit f d);
        dropped = replace-all no_task (FewDrops l) m.tasks r.task _ (omega (arith, fewer f d r.task)) (λ q. omega (arith, fewer f d q));
      }

  -- ALL OF IT: then the releases to come are for later ticks
  pub enter_fit : {m : Machine} → Fit s m → Fit s (enter m)
  enter_fit {m} f = along (Fit s) entering_fit (entered m []) f

pub later_fit : {n : ℕ} (m : Machine) → NoneDue m m.releases → ReleasesFit n m.now m.releases → ReleasesFit n (suc m.now) m.releases
later_fit {n} m d f = go m.releases d f
  where
    go : (l : List Release) → NoneDue m l → ReleasesFit n m.now l → ReleasesFit n (suc m.now) l
    go [] d f = no_releases n (suc m.now)
    go (r ∷ l) d f = none-now d f

pub enter-later : (m : Machine) → NoneDue (enter m) (enter m).releases
unfolding enter
enter-later m = arrive-all m.releases (start_waiting 8 m)
