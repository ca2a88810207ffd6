-- What a statement does to the blocks of a run's contents: nothing, or what the plain transaction does, with the answers of the pass.
use Prim.Native.Nat.{ℕ, ◌+◌, ◌<◌}
use mathlib.Core.Bool.{true}
use mathlib.Core.Path.{◌≡◌, refl}
use mathlib.Core.List.{List, ◌∷◌}
use native.Mathlib.Omega.{arith}
use lib.ListN.{length}
use Rattle.model.specs.Command.{COMMIT, BodyCommand, inside}
use Rattle.model.specs.Sheet.{Sheet}
use Rattle.model.specs.Word.{Memory, current_of}
use Rattle.model.specs.Exchange.{Exchange}
use Rattle.model.specs.Job.{Transaction, between, Phase, transacting, Task}
use Rattle.model.specs.Transaction.{nothing?, block_in}
use Rattle.model.specs.Machine.{task_at}
use Rattle.model.specs.Plain.{result, plainly}
use Rattle.model.specs.History.{Operation}
use Rattle.model.specs.Claim.{contents_of}
use Rattle.model.specs.Arguments.{until_commit}
use Rattle.model.proofs.Lists.{impossible}
use Rattle.model.proofs.Transactions.Facts.{transaction_facts}
use Rattle.model.proofs.Transactions.Given.{SaysYes, Cells, same, swapped}
use Rattle.model.proofs.Transactions.Contents.{each_same}
use Rattle.model.proofs.Transactions.Frame.{blocks-fit}
use Rattle.model.proofs.Transactions.Gather.{nothing-touched}
use Rattle.model.proofs.Transactions.Commit.{committed-nothing, commits-whole}
use Rattle.model.proofs.Transactions.Committing.{TransactionYes, Effect, quiet, commits}
use Rattle.model.proofs.Transactions.Statement.{transaction_fit}
use Rattle.model.proofs.Transactions.Machine.{statement_of, RunningTask, small, stated, block-stores}

cells_stay : {p : ℕ} {m n : Memory} {f : Phase} → ((x : Exchange) → SaysYes p m f x → ⊥) → Cells p m f n → (c : ℕ) → current_of n c ≡ current_of m c
cells_stay none (same g h) = h
cells_stay none (swapped x y i w) = absurd (none x y)

module _ (s : Sheet) {tasks p : ℕ} {m : Memory} {ts : List Task} {operations : ℕ → Operation}
    (R : RunningTask (length s.words) (length s.blocks) tasks p m ts operations) where
  -- a statement that commits no transaction leaves every block's version and values: an attempt that is lost or spent changes nothing
  pub block_stays : (TransactionYes p m (task_at ts p) → ⊥) → (b : ℕ) → b < length s.blocks → block_in (statement_of p m ts).memory b ≡ block_in m b
  block_stays none b lt = go (stated R 0).effect
    where
      go : Effect (length s.blocks) p m (task_at ts p) (operations p) (statement_of p m ts).memory (statement_of p m ts).task
          → block_in (statement_of p m ts).memory b ≡ block_in m b
      go (quiet y h e) = rw (h b, block-stores R 0 b lt)
      go (commits y C e f) = absurd (none y)

  pub blocks_stay : (TransactionYes p m (task_at ts p) → ⊥) → (contents_of s (statement_of p m ts).memory).blocks ≡ (contents_of s m).blocks
  blocks_stay none =
      each_same (length s.blocks) 0 (block_in (statement_of p m ts).memory) (block_in m) (λ b lt. block_stays none (0 + b) (omega arith))

  -- a statement that is no Commit that says yes leaves the contents
  pub contents_stay : ((x : Exchange) → SaysYes p m (task_at ts p).job.phase x → ⊥) → contents_of s (statement_of p m ts).memory ≡ contents_of s m
  contents_stay none =
      let cells : (c : ℕ) → current_of (statement_of p m ts).memory c ≡ current_of m c = cells_stay none R.given.cells in
      let words : (contents_of s (statement_of p m ts).memory).words ≡ (contents_of s m).words =
      each_same (length s.words) 0 (current_of (statement_of p m ts).memory) (current_of m) (λ c lt. cells (0 + c)) in
      let blocks : (contents_of s (statement_of p m ts).memory).blocks ≡ (contents_of s m).blocks =
      blocks_stay (λ y. none y.exchange (record { exchange = rw y.phase; step = y.step; status = y.status })) in
      rw (words, blocks)

  -- THE YES: the plain transaction takes the contents before to the contents after, and its answers are those of the pass
  pub commit_replays : TransactionYes p m (task_at ts p)
      → plainly (operations p).arguments (contents_of s m) ≡ result (contents_of s (statement_of p m ts).memory) (operations p).answers
  commit_replays y = go (stated R 0).effect
    where
      go : Effect (length s.blocks) p m (task_at ts p) (operations p) (statement_of p m ts).memory (statement_of p m ts).task
          → plainly (operations p).arguments (contents_of s m) ≡ result (contents_of s (statement_of p m ts).memory) (operations p).answers
      go (quiet none h e) = absurd (none y)
      go (commits y C e f) =
          rw C.arguments
          (commits-whole s R.few_words C.blocks_fit C.pass C.left C.cells (small R.declared R.invariant.owners C e))

  -- COMMIT with nothing touched
  pub nothing_replays : (x : Transaction) (l : List BodyCommand) → (task_at ts p).job.phase ≡ transacting x between
      → (task_at ts p).job.commands ≡ inside COMMIT ∷ l → nothing? x.blocks ≡ true
      → plainly (operations p).arguments (contents_of s m) ≡ result (contents_of s m) (operations p).answers
  unfolding until_commit
  nothing_replays x l e c h =
      let K = transaction_facts (length s.blocks) m (task_at ts p) (operations p) e (R.invariant.task p R.declared) in
      let F = transaction_fit (length s.words) (length s.blocks) (task_at ts p) e (R.fit p R.declared) in
      let u = nothing-touched x.blocks h in
      rw K.arguments
      (commits-whole s R.few_words (blocks-fit F) (K.pass refl) (rw c) (committed-nothing m (task_at ts p).copies x.blocks u)
      (λ b v k y. impossible (cc (u b))))
