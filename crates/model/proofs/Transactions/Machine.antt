-- A statement of the running task keeps the invariant of the transaction layer, and a bank word rises only where a transaction commits that has PUT
-- its block.
use Prim.Native.Nat.{ℕ, ◌<◌, ◌≤◌}
use mathlib.Core.Path.{◌≡◌, refl}
use mathlib.Core.Logic.{◌≢◌}
use mathlib.Core.List.{List, []}
use native.Mathlib.Omega.{arith}
use lib.ListN.{length}
use Rattle.model.specs.Lists.{at, replace}
use Rattle.model.specs.Word.{Memory}
use Rattle.model.specs.Job.{copied, Transaction, Inner, Phase, idle, plain, reading, exchanging, transacting, Task, Turn, counting, ticks}
use Rattle.model.specs.Transaction.{store_of, touched_of}
use Rattle.model.specs.Machine.{task_at, no_task, statement}
use Rattle.model.specs.History.{Operation, event_of}
use Rattle.model.proofs.Lists.{replace-same, replace-other, same?, impossible}
use Rattle.model.proofs.Fit.Memory.{MemoryFit}
use Rattle.model.proofs.Transactions.Facts.{bank_in, transaction_facts, Change, unchanged, slots_of}
use Rattle.model.proofs.Transactions.Facts.{block, slot, Owners, TaskFacts, Transactions}
use Rattle.model.proofs.Transactions.Given.{Given}
use Rattle.model.proofs.Transactions.Frame.{Apart, pass_apart}
use Rattle.model.proofs.Transactions.Commit.{committed_change}
use Rattle.model.proofs.Transactions.Owners.{owners_stay, slots_apart, owners_exchanged}
use Rattle.model.proofs.Transactions.Pass.{operation_after}
use Rattle.model.proofs.Transactions.Committing.{TransactionYes, CommitsNow, Effect, quiet, commits, Stated}
use Rattle.model.proofs.Transactions.Statement.{JobFit, transaction_fit, phase_stated}

abbrev pub statement_of : ℕ → Memory → List Task → Turn
statement_of p m ts = statement p m (task_at ts p) (task_at ts p).job.phase

-- WHAT THE OTHER LAYERS SAY of a tick in which task p runs, in a sheet with that many words, blocks and tasks
pub record RunningTask (words blocks tasks p : ℕ) (m : Memory) (ts : List Task) (operations : ℕ → Operation) : Type 0 where
  pub few_words : words ≤ 32
  pub few_blocks : blocks ≤ 16
  pub declared : p < tasks
  pub there : p < length ts
  pub memory : MemoryFit m
  pub copies : length (task_at ts p).copies ≡ 4
  pub fit : (q : ℕ) → q < tasks → JobFit words blocks (task_at ts q)
  pub fit_after : JobFit words blocks (statement_of p m ts).task
  pub given : Given p m ts (statement_of p m ts).memory
  pub invariant : Transactions blocks tasks m ts operations

-- the latest operations after a statement of task p in tick `now`, of the tasks that are in a transaction then
pub record Later (p now : ℕ) (m : Memory) (ts : List Task) (operations later : ℕ → Operation) : Type 0 where
  pub mine : (x : Transaction) (s : Inner) → (statement_of p m ts).task.job.phase ≡ transacting x s
      → later p ≡ operation_after p (event_of now (statement_of p m ts).did) (operations p)
  pub others : (q : ℕ) → q ≢ p → (x : Transaction) (s : Inner) → (task_at ts q).job.phase ≡ transacting x s → later q ≡ operations q

-- facts of a task go by its latest operation only in a transaction
of_transactions : (blocks : ℕ) (m : Memory) (t : Task) (f : Phase) {o o' : Operation} → t.job.phase ≡ f
    → ((x : Transaction) (s : Inner) → t.job.phase ≡ transacting x s → o' ≡ o) → TaskFacts blocks m t o → TaskFacts blocks m t o'
of_transactions blocks m t idle e g F = rw e tt
of_transactions blocks m t plain e g F = rw e tt
of_transactions blocks m t (reading r w s) e g F = rw e tt
of_transactions blocks m t (exchanging r x) e g F = rw e tt
of_transactions blocks m t (transacting x s) e g F = rw (g x s e) F

-- the copy slots of a transaction that commits lie in bank values
pub small : {blocks tasks p : ℕ} {m n : Memory} {slots : ℕ → List ℕ} {t : Task} {o : Operation} → p < tasks → Owners blocks tasks (bank_in m) slots
    → {y : TransactionYes p m t} → CommitsNow blocks p m t o n y → slots p ≡ t.copies
    → (b v k : ℕ) → touched_of y.transaction b ≡ copied v k → at 0 t.copies k < 256
small {p = p} lt D C e b v k u =
    let h = rw e at (D.below (slot p k) (lt, omega (arith, C.blocks_fit.slot b v k u, C.blocks_fit.most))) in omega arith

module _ {words blocks tasks p : ℕ} {m : Memory} {ts : List Task} {operations : ℕ → Operation} (R : RunningTask words blocks tasks p m ts operations)
    (now : ℕ) where
  pub stated :
      Stated blocks p m (task_at ts p) (operations p) (statement_of p m ts) (operation_after p (event_of now (statement_of p m ts).did) (operations p))
  stated =
      phase_stated
      (record {
        few_words = R.few_words;
        few_blocks = R.few_blocks;
        memory = R.memory;
        fit = R.fit p R.declared;
        facts = R.invariant.task p R.declared;
        apart = λ e. slots_apart p (task_at ts p).copies R.declared e R.invariant.owners;
      })
      now (task_at ts p).job.phase refl R.fit_after R.given.cells

  -- versions: a bank word keeps its current value, or its version rises by one
  pub bank-changes : (b : ℕ) → Change (bank_in m b) (bank_in (statement_of p m ts).memory b)
  bank-changes b = go stated.effect
    where
      go : Effect blocks p m (task_at ts p) (operations p) (statement_of p m ts).memory (statement_of p m ts).task
          → Change (bank_in m b) (bank_in (statement_of p m ts).memory b)
      go (quiet y h e) = unchanged (h b)
      go (commits y C e f) = committed_change C.cells (small R.declared R.invariant.owners C e) b

  -- stores are written only in copy slots of the task that runs
  pub block-stores : (b : ℕ) → b < blocks
      → at [] (statement_of p m ts).memory.stores (store_of (bank_in m b)) ≡ at [] m.stores (store_of (bank_in m b))
  block-stores b lt =
      stated.stores (store_of (bank_in m b)) (λ k l e. impossible (cc (R.invariant.owners.different (block b) (slot p k) lt (R.declared, l) e)))

  module _ (q : ℕ) (declared : q < tasks) (ne : q ≢ p) where
    slot-stores : (k : ℕ) → k < 4
        → at [] (statement_of p m ts).memory.stores (at 0 (slots_of (task_at ts q)) k) ≡ at [] m.stores (at 0 (slots_of (task_at ts q)) k)
    slot-stores k l = stated.stores (at 0 (slots_of (task_at ts q)) k) (λ j i e.
        let z : slot q k ≡ slot p j = R.invariant.owners.different (slot q k) (slot p j) (declared, l) (R.declared, i) e in
        let y : q ≡ p = cc in
        ne y)

    -- what is said of the others stays
    other_facts : (f : Phase) → (task_at ts q).job.phase ≡ f → TaskFacts blocks (statement_of p m ts).memory (task_at ts q) (operations q)
    other_facts idle e = rw e tt
    other_facts plain e = rw e tt
    other_facts (reading r w s) e = rw e tt
    other_facts (exchanging r x) e = rw e tt
    other_facts (transacting x s) e =
        let K = transaction_facts blocks m (task_at ts q) (operations q) e (R.invariant.task q declared) in
        let F = transaction_fit words blocks (task_at ts q) e (R.fit q declared) in
        rw e
        (record {
          arguments = K.arguments;
          pass = λ ny.
              let own : slots_of (task_at ts q) ≡ (task_at ts q).copies = rw (e, ny) in
              let A : Apart blocks 4 m (statement_of p m ts).memory (task_at ts q).copies =
              record { banks = bank-changes; block_stores = block-stores; slot_stores = λ k l. rw own at (slot-stores k l) } in
              pass_apart A x (K.pass ny).past s F (λ w l. R.given.readings q ne w (rw e l)) (K.pass ny);
        })

  -- THE INVARIANT STAYS
  own-task : task_at (replace ts p (counting ticks (statement_of p m ts).task)) p ≡ counting ticks (statement_of p m ts).task
  own-task = replace-same no_task ts p (counting ticks (statement_of p m ts).task) R.there

  other-task : (q : ℕ) → q ≢ p → task_at (replace ts p (counting ticks (statement_of p m ts).task)) q ≡ task_at ts q
  other-task q ne = replace-other no_task ts p q (counting ticks (statement_of p m ts).task) ne

  owners_after :
      Owners blocks tasks (bank_in (statement_of p m ts).memory) (λ q. slots_of (task_at (replace ts p (counting ticks (statement_of p m ts).task)) q))
  owners_after = go stated.effect
    where
      go : Effect blocks p m (task_at ts p) (operations p) (statement_of p m ts).memory (statement_of p m ts).task
          → Owners blocks tasks (bank_in (statement_of p m ts).memory)
          (λ q. slots_of (task_at (replace ts p (counting ticks (statement_of p m ts).task)) q))
      go (quiet y h e) = owners_stay h (λ q. same? q p (λ k. rw (k, own-task) e) (λ ne. rw (other-task q ne))) R.invariant.owners
      go (commits y C e f) =
          owners_exchanged p R.declared C.blocks_fit C.cells R.copies e (rw own-task f) (λ q ne. rw (other-task q ne))
          R.invariant.owners

  pub statement_keeps : {later : ℕ → Operation} → Later p now m ts operations later
      → Transactions blocks tasks (statement_of p m ts).memory (replace ts p (counting ticks (statement_of p m ts).task)) later
  statement_keeps {later} L =
      record {
        owners = owners_after;
        task = λ q lt. same? q p
            (λ e. rw (e, own-task)
            (of_transactions blocks (statement_of p m ts).memory (statement_of p m ts).task (statement_of p m ts).task.job.phase refl L.mine
            stated.facts))
            (λ ne. rw (other-task q ne)
            (of_transactions blocks (statement_of p m ts).memory (task_at ts q) (task_at ts q).job.phase refl (L.others q ne)
            (other_facts q lt ne (task_at ts q).job.phase refl)));
      }
