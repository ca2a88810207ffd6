-- The statements of a transaction in its exchange: the Commit that says yes commits the pass, no other statement changes a bank word.
use Prim.Native.Nat.{ℕ, ◌<◌}
use mathlib.Core.Bool.{Bool, true, false, true≢false}
use mathlib.Core.Path.{◌≡◌, refl, sym, ◌∙◌, subst}
use mathlib.Core.Logic.{◌≢◌}
use mathlib.Core.List.{[]}
use native.Mathlib.Omega.{arith}
use lib.ListN.{length}
use Rattle.model.specs.Lists.{at}
use Rattle.model.specs.Word.{Memory, status_of, current_of}
use Rattle.model.specs.Exchange.{commit}
use Rattle.model.specs.Exchange.{Exchange, Exchanged, ends, said_yes, commit_said_yes}
use Rattle.model.specs.Job.{Transaction, committing, transacting, Task, Turn, turn, rest, Deed}
use Rattle.model.specs.Transaction.{bank, stays, taken_back, transaction_tick, committing_by, committed_if}
use Rattle.model.specs.History.{Operation, event_of}
use Rattle.model.specs.Arguments.{transaction_of, until_commit}
use Rattle.model.proofs.Lists.{impossible}
use Rattle.model.proofs.Fit.Transaction.{TransactionFit}
use Rattle.model.proofs.Exchanges.Outcome.{outcome}
use Rattle.model.proofs.History.Exchange.{says_yes, says-not}
use Rattle.model.proofs.Transactions.Facts.{bank_in, unchanged, slots_of, PassFacts, TransactionFacts, TaskFacts}
use Rattle.model.proofs.Transactions.Given.{Swapped, Cells, same, swapped}
use Rattle.model.proofs.Transactions.Frame.{Apart, Blocks, blocks-fit, pass_apart}
use Rattle.model.proofs.Transactions.Steps.{inner-step}
use Rattle.model.proofs.Transactions.Steps.{begins as begins-pass}
use Rattle.model.proofs.Transactions.Commit.{Committed}
use Rattle.model.proofs.Transactions.Commit.{committed as committed-cells}
use Rattle.model.proofs.Transactions.Pass.{operation_after, done_facts, done-slots}
use Rattle.model.proofs.Transactions.Exchange.{Seen, goes_on, says-yes, says-yes-last, over, seen}

-- the statement of task p is the Commit that says yes for its transaction
pub record TransactionYes (p : ℕ) (m : Memory) (t : Task) : Type 0 where
  pub transaction : Transaction
  pub exchange : Exchange
  pub phase : t.job.phase ≡ transacting transaction (committing exchange)
  pub step : exchange.step ≡ commit
  pub status : status_of m p ≡ 0

-- what is known there: the pass has no command left, o is its operation, and n is the memory that the statement leaves
pub record CommitsNow (blocks p : ℕ) (m : Memory) (t : Task) (o : Operation) (n : Memory) (y : TransactionYes p m t) : Type 0 where
  pub arguments : o.arguments ≡ transaction_of y.transaction.kept (until_commit y.transaction.commands)
  pub pass : PassFacts blocks m t.copies t.job.registers t.job.commands y.transaction (committing y.exchange) o.answers
  pub left : until_commit t.job.commands ≡ []
  pub blocks_fit : Blocks blocks y.transaction.used y.transaction.blocks
  pub cells : Committed m n t.copies y.transaction.blocks

-- what a statement does to blocks and copy slots: nothing, or it commits a transaction
pub data Effect (blocks p : ℕ) (m : Memory) (t : Task) (o : Operation) (n : Memory) (t' : Task) : Type 0 where
  quiet : (TransactionYes p m t → ⊥) → ((b : ℕ) → bank_in n b ≡ bank_in m b) → slots_of t' ≡ slots_of t → Effect blocks p m t o n t'
  commits : (y : TransactionYes p m t) → CommitsNow blocks p m t o n y → slots_of t ≡ t.copies
      → slots_of t' ≡ taken_back t.copies y.transaction.blocks → Effect blocks p m t o n t'

-- a statement of task t with its latest operation o leaves the turn u and the operation o'
pub record Stated (blocks p : ℕ) (m : Memory) (t : Task) (o : Operation) (u : Turn) (o' : Operation) : Type 0 where
  pub facts : TaskFacts blocks u.memory u.task o'
  pub effect : Effect blocks p m t o u.memory u.task
  pub stores : (i : ℕ) → ((k : ℕ) → k < 4 → i ≢ at 0 (slots_of t) k) → at [] u.memory.stores i ≡ at [] m.stores i

-- what a step of the exchange means for the operation leaves its arguments and answers
pub record SameOperation (o o' : Operation) : Type 0 where
  pub arguments : o'.arguments ≡ o.arguments
  pub answers : o'.answers ≡ o.answers

step-operation : (p now : ℕ) (yes? : Bool) (o : Operation) → SameOperation o (operation_after p (event_of now (committed_if yes?)) o)
unfolding event_of
step-operation p now true o = record { arguments = refl; answers = refl }
step-operation p now false o = record { arguments = refl; answers = refl }

-- no cell changes unless the Commit says yes
calm : {p : ℕ} {m n : Memory} {x : Transaction} {e : Exchange} → says_yes p m e.step ≡ false → Cells p m (transacting x (committing e)) n → (c : ℕ)
    → current_of n c ≡ current_of m c
calm ny (same f h) = h
calm {p} {m} {e = e} ny (swapped y Y i S) = let z : e ≡ y = cc Y.exchange in absurd (says-not p m e.step ny (rw (← z) at Y.step) Y.status)

module _ {words blocks p : ℕ} {m : Memory} {t : Task} {x : Transaction} {e : Exchange} {o : Operation}
    (phase : t.job.phase ≡ transacting x (committing e))
    (fit : TransactionFit words blocks t.copies t.job.commands t.job.pairs x (committing e))
    (T : TransactionFacts blocks m t.copies t.job.registers t.job.commands x (committing e) o) where
  not-now : says_yes p m e.step ≡ false → TransactionYes p m t → ⊥
  not-now ny Y = let z : e ≡ Y.exchange = cc (phase, Y.phase) in says-not p m e.step ny (rw (← z) at Y.step) Y.status

  goes_stated : {n : Memory} {d : Deed} (y : Exchange) {o' : Operation} → said_yes y.step ≡ said_yes e.step → says_yes p m e.step ≡ false
      → ((c : ℕ) → current_of n c ≡ current_of m c) → n.stores ≡ m.stores → SameOperation o o'
      → Stated blocks p m t o (turn n (stays t x (committing y)) d) o'
  goes_stated {n} {d} y ey ny h st E =
      record {
        facts = record {
          arguments = E.arguments ∙ T.arguments;
          pass = λ f.
              rw E.answers (inner-step (committing y) tt
              (pass_apart A x (T.pass (sym ey ∙ f)).past (committing e) fit (λ w l. impossible (cc)) (T.pass (sym ey ∙ f))));
        };
        effect = quiet (not-now ny) (λ b. h (bank b)) (rw (phase, ey));
        stores = λ i ne. rw st;
      }
    where
      A : Apart blocks 4 m n t.copies
      A = record { banks = λ b. unchanged (h (bank b)); block_stores = λ b l. rw st; slot_stores = λ k l. rw st }

  yes_stated : {n : Memory} {d : Deed} (y : Exchange) {o' : Operation} → said_yes y.step ≡ true → e.step ≡ commit → status_of m p ≡ 0
      → Cells p m (transacting x (committing e)) n → n.stores ≡ m.stores → SameOperation o o'
      → Stated blocks p m t o (turn n (stays t x (committing y)) d) o'
  unfolding until_commit
  yes_stated y ey ec es (same f h) st E = absurd (f e (record { exchange = refl; step = ec; status = es }))
  yes_stated {n} {d} y ey ec es (swapped z Y i S) st E =
      let ez : e ≡ z = cc Y.exchange in
      let S' : Swapped m n e.entries = subst (λ (w : Exchange). Swapped m n w.entries) (sym ez) S in
      let F = fit.inner in
      record {
        facts = record { arguments = E.arguments ∙ T.arguments; pass = λ no. absurd (true≢false (sym ey ∙ no)) };
        effect = commits
            (record { transaction = x; exchange = e; phase = phase; step = ec; status = es })
            (record {
              arguments = T.arguments;
              pass = T.pass (rw ec);
              left = rw F.commands;
              blocks_fit = blocks-fit fit;
              cells = committed-cells t.copies x.blocks F.exchange.same S' st;
            })
            (rw (phase, ec))
            (rw ey);
        stores = λ i ne. rw st;
      }

  -- the last tick, by the answer
  last_stated : (n : Memory) (now : ℕ) (yes? : Bool) → yes? ≡ said_yes e.step → says_yes p m e.step ≡ false
      → Cells p m (transacting x (committing e)) (committing_by t x e (ends n yes?)).memory → n.stores ≡ m.stores
      → Stated blocks p m t o (committing_by t x e (ends n yes?)) (operation_after p (event_of now (committing_by t x e (ends n yes?)).did) o)
  unfolding committing_by event_of
  last_stated n now true ey ny c st =
      record {
        facts = done_facts blocks n (rest t.job.commands) t t.job.registers [] (taken_back t.copies x.blocks) _;
        effect =
            quiet (not-now ny) (λ b. calm ny c (bank b))
            (done-slots (rest t.job.commands) t t.job.registers [] (taken_back t.copies x.blocks) ∙ rw (phase, ← ey));
        stores = λ i ne. rw st;
      }
  last_stated n now false ey ny c st =
      record {
        facts = record { arguments = T.arguments; pass = λ no. begins-pass blocks n t.copies x.kept x.commands };
        effect = quiet (not-now ny) (λ b. calm ny c (bank b)) (rw (phase, ← ey));
        stores = λ i ne. rw st;
      }

  seen_stated : (now : ℕ) {out : Exchanged} → Seen p m e out → Cells p m (transacting x (committing e)) (committing_by t x e out).memory
      → Stated blocks p m t o (committing_by t x e out) (operation_after p (event_of now (committing_by t x e out).did) o)
  unfolding committing_by event_of
  seen_stated now (goes_on {y = y} ey ny st) c = goes_stated y ey ny (calm ny c) st (step-operation p now (commit_said_yes e y) o)
  seen_stated now (says-yes {y = y} ey ec es) c = yes_stated y ey ec es c refl (step-operation p now (commit_said_yes e y) o)
  seen_stated now (says-yes-last ec es i) c = absurd (never c)
    where
      never : {n : Memory} → Cells p m (transacting x (committing e)) n → ⊥
      never (same f h) = f e (record { exchange = refl; step = ec; status = es })
      never (swapped z Y k S) =
          let ez : e ≡ z = cc Y.exchange in let k' : e.i ≡ length e.entries = rw (← ez) at k in omega (arith, fit.inner.exchange.some)
  seen_stated now (over {n} {yes?} ey ny st) c = last_stated n now yes? ey ny c st

  pub committing_stated : (now : ℕ) → Cells p m (transacting x (committing e)) (transaction_tick p m t x (committing e)).memory
      → Stated blocks p m t o (transaction_tick p m t x (committing e))
      (operation_after p (event_of now (transaction_tick p m t x (committing e)).did) o)
  unfolding transaction_tick
  committing_stated now c = seen_stated now (seen p m e (outcome p m e)) c
