-- Every statement of a task, in a transaction or not: what is said of its task afterwards, and what it does to blocks, slots and stores.
use Prim.Native.Nat.{ℕ, ◌<◌, ◌≤◌}
use mathlib.Core.Bool.{false}
use mathlib.Core.Path.{◌≡◌, refl, sym, ◌∙◌, subst}
use mathlib.Core.List.{List, [], ◌∷◌, ◌++◌}
use mathlib.Core.Option.{none}
use native.Mathlib.Omega.{arith}
use lib.ListN.{length}
use Rattle.model.specs.Lists.{at, replace}
use Rattle.model.specs.Command.{PUT, READ, PAIR, SWAP, BEGIN, BodyCommand, LOAD, ADD, outside, inside}
use Rattle.model.specs.Word.{Memory, current_of, loading, Read, reads, gives, read_tick}
use Rattle.model.specs.Exchange.{Entry, entry, exchange_of, start, Exchange, Exchanged, goes, ends, exchange_tick}
use Rattle.model.specs.Job.{Transaction, Inner, between, first, copying, again, committing, Phase, idle}
use Rattle.model.specs.Job.{plain, reading, exchanging, transacting, Task, turn, rest, done, Deed, Turn}
use Rattle.model.specs.Transaction.{bank, loaded, added, stays, copy_by, copy_tick, access_tick, command_tick, transaction_tick}
use Rattle.model.specs.Machine.{answer, read_by, swap_by, plain_tick, statement, beginning}
use Rattle.model.specs.History.{Operation, event_of}
use Rattle.model.specs.Arguments.{Arguments}
use Rattle.model.proofs.Lists.{impossible}
use Rattle.model.proofs.Fit.Memory.{MemoryFit}
use Rattle.model.proofs.Fit.Exchange.{entry_of}
use Rattle.model.proofs.Fit.Transaction.{TransactionFit}
use Rattle.model.proofs.Fit.Machine.{PhaseFit}
use Rattle.model.proofs.Exchanges.Act.{memory_after}
use Rattle.model.proofs.Exchanges.Outcome.{outcome}
use Rattle.model.proofs.History.Moves.{inner_committed}
use Rattle.model.proofs.Transactions.Facts.{bank_in, slots_of, transaction_facts, TaskFacts}
use Rattle.model.proofs.Transactions.Given.{exchange_in, Swapped, Cells, same, swapped}
use Rattle.model.proofs.Transactions.Steps.{SlotsApart}
use Rattle.model.proofs.Transactions.Steps.{begins as begins-pass}
use Rattle.model.proofs.Transactions.Pass.{operation_after, done_facts, done-slots, PutRoom, BeforeExchange, pass_turned}
use Rattle.model.proofs.Transactions.Exchange.{Seen, goes_on, says-yes, says-yes-last, over, seen}
use Rattle.model.proofs.Transactions.Committing.{TransactionYes, quiet, Stated, committing_stated}

-- no exchange is at work
no_exchange : {p : ℕ} {m n : Memory} {f : Phase} → exchange_in f ≡ none → Cells p m f n → (c : ℕ) → current_of n c ≡ current_of m c
no_exchange e (same g h) = h
no_exchange e (swapped x Y i S) = impossible (cc Y.exchange)

-- an exchange of plain words leaves bank words, also where it says yes
plain-words : {p r : ℕ} {m n : Memory} {x : Exchange} → ((e : ℕ) → e < length x.entries → (entry_of x.entries e).cell < 32)
    → Cells p m (exchanging r x) n → (b : ℕ) → bank_in n b ≡ bank_in m b
plain-words lt (same g h) b = h (bank b)
plain-words {m = m} {n = n} {x = x} lt (swapped y Y i S) b =
    let z : x ≡ y = cc Y.exchange in
    let S' : Swapped m n x.entries = subst (λ (w : Exchange). Swapped m n w.entries) (sym z) S in
    S'.others (bank b) (λ e l q. omega (arith, lt e l))

seen_stores : {p : ℕ} {m : Memory} {x : Exchange} {out : Exchanged} → Seen p m x out → (memory_after out).stores ≡ m.stores
seen_stores (goes_on ey ny st) = st
seen_stores (says-yes ey ec es) = refl
seen_stores (says-yes-last ec es i) = refl
seen_stores (over ey ny st) = st

module _ {blocks p : ℕ} {m : Memory} {t : Task} {o : Operation} where
  quiet_stated : {n : Memory} {t' : Task} {d : Deed} {o' : Operation} → (TransactionYes p m t → ⊥) → TaskFacts blocks n t' o'
      → ((b : ℕ) → bank_in n b ≡ bank_in m b) → slots_of t' ≡ slots_of t → n.stores ≡ m.stores → Stated blocks p m t o (turn n t' d) o'
  quiet_stated y F h e st = record { facts = F; effect = quiet y h e; stores = λ i ne. rw st }

  -- outside transactions nothing is said of a task
  module _ (own : slots_of t ≡ t.copies) (plainly : TransactionYes p m t → ⊥) where
    done_stated : {n : Memory} {d : Deed} (rs : List ℕ) (ps : List Entry) {o' : Operation} → ((b : ℕ) → bank_in n b ≡ bank_in m b)
        → n.stores ≡ m.stores → Stated blocks p m t o (turn n (done t rs ps t.copies) d) o'
    done_stated {n} rs ps h st =
        quiet_stated plainly (done_facts blocks n (rest t.job.commands) t rs ps t.copies _) h
        (done-slots (rest t.job.commands) t rs ps t.copies ∙ sym own) st

    read_stated : (r w : ℕ) (y : Read) {o' : Operation} → Stated blocks p m t o (read_by m t r w y) o'
    unfolding read_by
    read_stated r w (reads s) = quiet_stated plainly tt (λ b. refl) (sym own) refl
    read_stated r w (gives v) = done_stated (replace t.job.registers r v) t.job.pairs (λ b. refl) refl

    swap_stated : (r : ℕ) (x : Exchange) (out : Exchanged) {o' : Operation} → ((b : ℕ) → bank_in (memory_after out) b ≡ bank_in m b)
        → (memory_after out).stores ≡ m.stores → Stated blocks p m t o (swap_by t r x out) o'
    unfolding swap_by
    swap_stated r x (goes n y) h st = quiet_stated plainly tt h (sym own) st
    swap_stated r x (ends n yes?) h st = done_stated (replace t.job.registers r (answer yes?)) [] h st

swap-memory : (t : Task) (r : ℕ) (x : Exchange) (out : Exchanged) → (swap_by t r x out).memory ≡ memory_after out
unfolding swap_by
swap-memory t r x (goes n y) = refl
swap-memory t r x (ends n yes?) = refl

module _ {blocks p : ℕ} {m : Memory} {t : Task} {o : Operation} (own : slots_of t ≡ t.copies) (plainly : TransactionYes p m t → ⊥) where
  -- a command that does not stand outside a transaction
  idle_stated : {d : Deed} {o' : Operation} → TaskFacts blocks m t o' → Stated blocks p m t o (turn m t d) o'
  idle_stated F = quiet_stated plainly F (λ b. refl) refl refl

  -- the same turn as the first of an operation
  begun_stated : {u : Turn} {a : Arguments} {o' : Operation} → Stated blocks p m t o u o' → Stated blocks p m t o (beginning a u) o'
  begun_stated k = record { facts = k.facts; effect = k.effect; stores = k.stores }

  command_stated : (now : ℕ) (l : List BodyCommand) → t.job.phase ≡ plain → Cells p m plain (plain_tick p m t l).memory
      → Stated blocks p m t o (plain_tick p m t l) (operation_after p (event_of now (plain_tick p m t l).did) o)
  unfolding plain_tick event_of read_tick exchange_tick swap_by
  command_stated now [] e c = idle_stated (rw e tt)
  command_stated now (LOAD r v ∷ l) e c = done_stated own plainly (loaded t.job.registers r v) t.job.pairs (λ b. refl) refl
  command_stated now (ADD r q ∷ l) e c = done_stated own plainly (added t.job.registers r q) t.job.pairs (λ b. refl) refl
  command_stated now (outside (READ r w) ∷ l) e c = begun_stated (read_stated own plainly r w (read_tick m w loading))
  command_stated now (outside (PAIR w a b) ∷ l) e c =
      done_stated own plainly t.job.registers (t.job.pairs ++ (entry w (at 0 t.job.registers a) (at 0 t.job.registers b) ∷ []))
      (λ b. refl) refl
  command_stated now (outside (SWAP r) ∷ l) e c =
      begun_stated (swap_stated own plainly r (exchange_of t.job.pairs) (exchange_tick p m (exchange_of t.job.pairs) start)
      (λ b. no_exchange refl c (bank b)) refl)
  command_stated now (outside BEGIN ∷ l) e c =
      quiet_stated plainly (record { arguments = refl; pass = λ _. begins-pass blocks m t.copies t.job.registers l }) (λ b. refl) (sym own)
      refl
  command_stated now (inside i ∷ l) e c = idle_stated (rw e tt)

abbrev pub JobFit : ℕ → ℕ → Task → Type 0
JobFit words blocks t = PhaseFit words blocks t.copies t.job.commands t.job.pairs t.job.phase

pub transaction_fit : (words blocks : ℕ) (t : Task) {x : Transaction} {s : Inner} → t.job.phase ≡ transacting x s → JobFit words blocks t
    → TransactionFit words blocks t.copies t.job.commands t.job.pairs x s
transaction_fit words blocks t e F = subst (λ (f : Phase). PhaseFit words blocks t.copies t.job.commands t.job.pairs f) e F

-- a first copy tick is well formed afterwards, so a copy slot was left before it
put_room : (words blocks p : ℕ) (m : Memory) (t : Task) (x : Transaction) → JobFit words blocks (transaction_tick p m t x between).task
    → PutRoom x t.job.commands
unfolding transaction_tick command_tick access_tick copy_tick copy_by
put_room words blocks p m t x F b c r v others l e =
    let u : (transaction_tick p m t x between).task ≡ stays t x (copying (PUT b c r) 1) = rw (l, e) in
    let G : TransactionFit words blocks t.copies t.job.commands [] x (copying (PUT b c r) 1) =
    subst (λ (y : Task). JobFit words blocks y) u F in
    G.inner.first.left

-- THE SITUATION of a statement of task p
pub record TaskSituation (words blocks p : ℕ) (m : Memory) (t : Task) (o : Operation) : Type 0 where
  pub few_words : words ≤ 32
  pub few_blocks : blocks ≤ 16
  pub memory : MemoryFit m
  pub fit : JobFit words blocks t
  pub facts : TaskFacts blocks m t o
  pub apart : slots_of t ≡ t.copies → SlotsApart blocks m t.copies

module _ {words blocks p : ℕ} {m : Memory} {t : Task} {o : Operation} (S : TaskSituation words blocks p m t o) (now : ℕ) where
  pass_stated : (x : Transaction) (s : Inner) → t.job.phase ≡ transacting x s → BeforeExchange x t.job.commands s → inner_committed s ≡ false
      → Stated blocks p m t o (transaction_tick p m t x s) (operation_after p (event_of now (transaction_tick p m t x s).did) o)
  pass_stated x s e out ny =
      let own : slots_of t ≡ t.copies = rw (e, ny) in
      let F = transaction_fit words blocks t e S.fit in
      let K = transaction_facts blocks m t o e S.facts in
      let T = pass_turned p now s out
      (record { most = S.few_blocks; memory = S.memory; apart = S.apart own; phase = e; fit = F; arguments = K.arguments; pass = K.pass ny }) in
      record { facts = T.facts; effect = quiet (λ Y. outside Y) (λ b. T.cells (bank b)) (T.slots ∙ sym own); stores = λ i ne. T.stores i (rw own at ne) }
    where
      outside : TransactionYes p m t → ⊥
      outside Y = let z : s ≡ committing Y.exchange = cc (e, Y.phase) in subst (λ (i : Inner). BeforeExchange x t.job.commands i) z out

  pub phase_stated : (f : Phase) → t.job.phase ≡ f → JobFit words blocks (statement p m t f).task → Cells p m f (statement p m t f).memory
      → Stated blocks p m t o (statement p m t f) (operation_after p (event_of now (statement p m t f).did) o)
  unfolding statement event_of
  phase_stated idle e G c = idle_stated (rw e) (λ Y. impossible (cc (e, Y.phase))) (rw e tt)
  phase_stated plain e G c = command_stated (rw e) (λ Y. impossible (cc (e, Y.phase))) now t.job.commands e c
  phase_stated (reading r w s) e G c = read_stated (rw e) (λ Y. impossible (cc (e, Y.phase))) r w (read_tick m w s)
  phase_stated (exchanging r x) e G c =
      let F = subst (λ (f : Phase). PhaseFit words blocks t.copies t.job.commands t.job.pairs f) e S.fit in
      swap_stated (rw e) (λ Y. impossible (cc (e, Y.phase))) r x (exchange_tick p m x x.step)
      (plain-words (λ i l. omega (arith, F.exchange.entries.below i l, S.few_words)) (rw (swap-memory t r x (exchange_tick p m x x.step)) at c))
      (seen_stores (seen p m x (outcome p m x)))
  phase_stated (transacting x between) e G c = pass_stated x between e (put_room words blocks p m t x G) refl
  phase_stated (transacting x (first a r)) e G c = pass_stated x (first a r) e tt refl
  phase_stated (transacting x (copying a n)) e G c = pass_stated x (copying a n) e tt refl
  phase_stated (transacting x (again a v r)) e G c = pass_stated x (again a v r) e tt refl
  phase_stated (transacting x (committing y)) e G c =
      committing_stated e (transaction_fit words blocks t e S.fit) (transaction_facts blocks m t o e S.facts) now c
