-- The machine at the start of an accepted sheet's run is well formed.
use Prim.Native.Nat.{ℕ, zero, suc, ◌+◌, ◌*◌, ◌-◌, ◌<◌, ◌≤◌}
use mathlib.Core.Path.{◌≡◌, refl, sym, ◌∙◌, ap, subst}
use mathlib.Core.List.{List, [], ◌∷◌, ◌++◌, map}
use native.Mathlib.Omega.{arith}
use lib.ListN.{length, replicate, length-append, length-replicate, length-map}
use Rattle.model.specs.Lists.{at}
use Rattle.model.specs.Command.{Block, BodyCommand, Release, no_block}
use Rattle.model.specs.Sheet.{Sheet}
use Rattle.model.specs.Word.{Word, fresh_word}
use Rattle.model.specs.Job.{Task, task, no_counts, no_job}
use Rattle.model.specs.Machine.{no_task, task_at}
use Rattle.model.specs.Start.{filled, zeros, copies_of, banks_from, tasks_from, start_memory, start_machine, start_values}
use Rattle.model.specs.Drops.{jobs_of}
use Rattle.model.proofs.Lists.{at_append, at_map, at-replicate, at_default}
use Rattle.model.proofs.Fit.Elements.{append_each, replicate-each, at-filled, below?}
use Rattle.model.proofs.Fit.Sheet.{SheetFit}
use Rattle.model.proofs.Fit.Memory.{MemoryFit}
use Rattle.model.proofs.Fit.Machine.{TaskFit, DeclaredFit, Fit}

pub filled-size : {A : Type 0} (n : ℕ) (d : A) (l : List A) → length l ≤ n → length (filled n d l) ≡ n
unfolding filled
filled-size n d l h = omega (arith, length-append l (replicate (n - length l) d), length-replicate (n - length l) d)

pub banks_size : (store : ℕ) (bs : List Block) → length (banks_from store bs) ≡ length bs
unfolding banks_from
banks_size store [] = refl
banks_size store (b ∷ bs) = ap suc (banks_size (suc store) bs)

-- MEMORY
module _ {s : Sheet} (c : SheetFit s) where
  own-stores : List (List ℕ)
  own-stores = replicate (4 * length s.bodies) (zeros 8) ++ map start_values s.blocks

  own-stores-size : length own-stores ≤ 48
  unfolding own-stores
  own-stores-size =
      omega (
        arith,
        length-append (replicate (4 * length s.bodies) (zeros 8)) (map start_values s.blocks),
        length-replicate (4 * length s.bodies) (zeros 8),
        length-map s.blocks start_values,
        c.bodies,
        c.blocks,
      )

  -- every store has eight values
  store-size : (i : ℕ) → i < length (filled 48 (zeros 8) own-stores) → length (at [] (filled 48 (zeros 8) own-stores) i) ≡ 8
  unfolding own-stores filled
  store-size =
      append_each [] (λ (l : List ℕ). length l ≡ 8) own-stores (replicate (48 - length own-stores) (zeros 8))
      (append_each [] (λ (l : List ℕ). length l ≡ 8) (replicate (4 * length s.bodies) (zeros 8)) (map start_values s.blocks)
      (replicate-each [] (λ (l : List ℕ). length l ≡ 8) (4 * length s.bodies) (zeros 8) refl)
      (λ i h. ap length (at_map start_values no_block s.blocks i) ∙ c.values i (rw (length-map s.blocks start_values) at h)))
      (replicate-each [] (λ (l : List ℕ). length l ≡ 8) (48 - length own-stores) (zeros 8) refl)

  pub start-memory_fit : MemoryFit (start_memory s)
  unfolding start_memory own-stores
  start-memory_fit =
      let words : List Word = filled 32 (fresh_word 0) (map fresh_word s.words) in
      let banks : List Word = filled 16 (fresh_word 0) (banks_from (4 * length s.bodies) s.blocks) in
      let stores = filled-size 48 (zeros 8) own-stores own-stores-size in
      record {
        cells = omega (
          arith,
          length-append words banks,
          filled-size 32 (fresh_word 0) (map fresh_word s.words) (rw (length-map s.words fresh_word) c.words),
          filled-size 16 (fresh_word 0) (banks_from (4 * length s.bodies) s.blocks)
              (rw (banks_size (4 * length s.bodies) s.blocks) c.blocks),
        );
        status = refl;
        saves = refl;
        save = λ p h. ap length (at-replicate [] (zeros 8) 8 p h);
        stores = stores;
        store = λ i h. store-size i (rw stores h);
      }

-- TASKS
-- a task with that body and number before its first job
abbrev pub start_task : List BodyCommand → ℕ → Task
start_task body p = task body (copies_of p) no_counts no_job

pub tasks-size : (p : ℕ) (bodies : List (List BodyCommand)) → length (tasks_from p bodies) ≡ length bodies
unfolding tasks_from
tasks-size p [] = refl
tasks-size p (b ∷ bodies) = ap suc (tasks-size (suc p) bodies)

task-from : (p : ℕ) (bodies : List (List BodyCommand)) (i : ℕ) → i < length bodies
    → task_at (tasks_from p bodies) i ≡ start_task (at [] bodies i) (p + i)
unfolding tasks_from at
task-from p [] i h = absurd (omega arith)
task-from p (b ∷ bodies) zero h = let z : p + 0 ≡ p = omega arith in ap (start_task b) (sym z)
task-from p (b ∷ bodies) (suc i) h =
    let z : suc p + i ≡ p + suc i = omega arith in task-from (suc p) bodies i (omega arith) ∙ ap (start_task (at [] bodies i)) z

pub start-task : (s : Sheet) (p : ℕ) → p < length s.bodies → task_at (start_machine s).tasks p ≡ start_task (at [] s.bodies p) p
unfolding start_machine filled
start-task s p h =
    at_append no_task (tasks_from 0 s.bodies) (replicate (8 - length (tasks_from 0 s.bodies)) no_task) p (rw (tasks-size 0 s.bodies) h)
    ∙ task-from 0 s.bodies p h
    ∙ ap (start_task (at [] s.bodies p)) (omega arith)

start_undeclared : (s : Sheet) (p : ℕ) → length s.bodies ≤ p → task_at (start_machine s).tasks p ≡ no_task
unfolding start_machine filled
start_undeclared s p h = at-filled no_task (tasks_from 0 s.bodies) (8 - length (tasks_from 0 s.bodies)) p (rw (tasks-size 0 s.bodies) h)

-- what every task has at first
module _ {B : Type 0} (f : Task → B) (b : B) (declared : (body : List BodyCommand) (p : ℕ) → f (start_task body p) ≡ b) (none : f no_task ≡ b) where
  start-part : (s : Sheet) (p : ℕ) → f (task_at (start_machine s).tasks p) ≡ b
  start-part s p =
      below? p (length s.bodies)
      (λ h. ap f (start-task s p h) ∙ declared (at [] s.bodies p) p)
      (λ h. ap f (start_undeclared s p h) ∙ none)

pub start-counts : (s : Sheet) (p : ℕ) → (task_at (start_machine s).tasks p).counts ≡ no_counts
start-counts = start-part (λ t. t.counts) no_counts (λ body p. refl) refl

pub start-jobs : (s : Sheet) (p : ℕ) → jobs_of (task_at (start_machine s).tasks p) ≡ 0
start-jobs = start-part jobs_of 0 (λ body p. refl) refl

start-task_fit : (words blocks : ℕ) (body : List BodyCommand) (p : ℕ) → TaskFit words blocks body 0 (start_task body p)
start-task_fit words blocks body p =
    record { body = refl; registers = refl; copies = refl; counts = omega arith; ticks = omega arith; phase = record { commands = refl; no_pairs = refl } }

-- THE MACHINE
pub start_fit : {s : Sheet} → SheetFit s → Fit s (start_machine s)
unfolding start_machine
start_fit {s} c =
    record {
      memory = start-memory_fit c;
      tasks = filled-size 8 no_task (tasks_from 0 s.bodies) (rw (tasks-size 0 s.bodies) c.bodies);
      task = λ p h.
          subst (λ (t : Task). DeclaredFit s 0 p t) (sym (start-task s p h))
          (start-task_fit (length s.words) (length s.blocks) (at [] s.bodies p) p);
      undeclared = start_undeclared s;
      waiting = record {
        size = refl;
        most = λ p. rw (at_default {A = List Release} [] 8 p) (omega arith);
        undeclared = λ p h. at_default {A = List Release} [] 8 p;
      };
      releases = c.releases;
      dropped = λ p. rw (start-counts s p) (omega (arith, c.most_releases));
    }
