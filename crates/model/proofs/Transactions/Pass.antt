-- Every statement of a transaction outside its exchange keeps what is said of its pass, leaves every current value and writes only copy slots.
use Prim.Native.Nat.{ℕ, suc, ◌<◌, ◌≤◌}
use mathlib.Core.Bool.{Bool, true, false, true≢false}
use mathlib.Core.Path.{◌≡◌, refl, sym, subst}
use mathlib.Core.Logic.{◌≢◌}
use mathlib.Core.List.{List, [], ◌∷◌}
use mathlib.Core.Option.{none}
use native.Mathlib.Omega.{arith}
use lib.Dec.{eqb}
use borrow.Author.Tests.{eqb-true}
use Rattle.model.specs.Lists.{at}
use Rattle.model.specs.Command.{Access, GET, PUT, Block, access, COMMIT, BodyCommand, LOAD, ADD, outside, inside}
use Rattle.model.specs.Word.{Memory, cell_of, stored, saved, set_stored, own, current_of, Reading}
use Rattle.model.specs.Word.{loading, looking, fetching, Read, reads, gives, read_tick, looking_by}
use Rattle.model.specs.Exchange.{Entry, exchange_of}
use Rattle.model.specs.Job.{Touched, untouched, remembered, copied, Transaction, Inner, between, first, copying}
use Rattle.model.specs.Job.{again, committing, transacting, Task, Turn, turn, loses_attempt, rest, done_by, Deed, nothing_done}
use Rattle.model.specs.Transaction.{bank, version_of, store_of, block_of, remembered_of, touched_of, stays, goes_on}
use Rattle.model.specs.Transaction.{restarted, loaded, added, first_read, copy_by, copy_tick, access_tick, check_by}
use Rattle.model.specs.Transaction.{again_read, nothing?, spent?, gather, command_tick, transaction_tick, commit_command_by}
use Rattle.model.specs.Plain.{computes, pass_by}
use Rattle.model.specs.Plain.{Pass as Plain}
use Rattle.model.specs.History.{Operation, operation, Event, nothing, begins, amends, losing, event_of}
use Rattle.model.specs.Arguments.{transaction_of, until_commit}
use Rattle.model.proofs.Lists.{replace-other, impossible}
use Rattle.model.proofs.Exchanges.Words.{current-own, current-other}
use Rattle.model.proofs.Fit.Memory.{MemoryFit}
use Rattle.model.proofs.Fit.Transaction.{touched?, AgainFit, TransactionFit}
use Rattle.model.proofs.History.Moves.{inner_committed}
use Rattle.model.proofs.Transactions.Facts.{bank_in, Past, slots_of, PutAtWork, InReading, CopiedTo, Ready, AtInner, PassFacts, TaskFacts}
use Rattle.model.proofs.Transactions.Versions.{now-past}
use Rattle.model.proofs.Transactions.Frame.{blocks-fit}
use Rattle.model.proofs.Transactions.Steps.{SlotsApart, inner-step, computed, got_done}
use Rattle.model.proofs.Transactions.Steps.{begins as begins-pass}
use Rattle.model.proofs.Transactions.Puts.{remembers, copies-all, copies-one, writes}

-- the task's latest operation after what a statement meant for it
abbrev pub operation_after : ℕ → Event → Operation → Operation
operation_after p nothing o = o
operation_after p (begins given) o = operation p given none false false [] []
operation_after p (amends f) o = f o

-- what a statement of task t leaves, its latest operation being o afterwards
pub record Turned (blocks : ℕ) (m : Memory) (t : Task) (u : Turn) (o : Operation) : Type 0 where
  pub facts : TaskFacts blocks u.memory u.task o
  pub cells : (c : ℕ) → current_of u.memory c ≡ current_of m c
  pub slots : slots_of u.task ≡ t.copies
  pub stores : (i : ℕ) → ((k : ℕ) → k < 4 → i ≢ at 0 t.copies k) → at [] u.memory.stores i ≡ at [] m.stores i

pub same_memory : {blocks : ℕ} {m : Memory} {t t' : Task} {d : Deed} {o : Operation} → TaskFacts blocks m t' o → slots_of t' ≡ t.copies
    → Turned blocks m t (turn m t' d) o
same_memory F e = record { facts = F; cells = λ c. refl; slots = e; stores = λ i n. refl }

-- a command that ends outside a transaction
pub done_facts : (blocks : ℕ) (m : Memory) (l : List BodyCommand) (t : Task) (rs : List ℕ) (ps : List Entry) (cs : List ℕ) (o : Operation)
    → TaskFacts blocks m (done_by l t rs ps cs) o
unfolding done_by
done_facts blocks m [] t rs ps cs o = tt
done_facts blocks m (c ∷ l) t rs ps cs o = tt

pub done-slots : (l : List BodyCommand) (t : Task) (rs : List ℕ) (ps : List Entry) (cs : List ℕ) → slots_of (done_by l t rs ps cs) ≡ cs
unfolding done_by
done-slots [] t rs ps cs = refl
done-slots (c ∷ l) t rs ps cs = refl

-- the first copy tick of a PUT finds a copy slot left
abbrev pub PutRoom : Transaction → List BodyCommand → Type 0
PutRoom x l = (b o r v : ℕ) (others : List BodyCommand) → l ≡ inside (access (PUT b o r)) ∷ others → touched_of x b ≡ remembered v → x.used < 4

-- THE SITUATION of a statement of task t in a pass
pub record PassSituation (words blocks : ℕ) (m : Memory) (t : Task) (x : Transaction) (s : Inner) (o : Operation) : Type 0 where
  pub most : blocks ≤ 16
  pub memory : MemoryFit m
  pub apart : SlotsApart blocks m t.copies
  pub phase : t.job.phase ≡ transacting x s
  pub fit : TransactionFit words blocks t.copies t.job.commands t.job.pairs x s
  pub arguments : o.arguments ≡ transaction_of x.kept (until_commit x.commands)
  pub pass : PassFacts blocks m t.copies t.job.registers t.job.commands x s o.answers

module _ {words blocks : ℕ} {m : Memory} {t : Task} {x : Transaction} {s : Inner} {o : Operation} (S : PassSituation words blocks m t x s o) where
  -- another inner step of the same command
  stays_turned : (s' : Inner) → inner_committed s' ≡ false → AtInner m t.copies x s' → Turned blocks m t (turn m (stays t x s') nothing_done) o
  stays_turned s' e h = same_memory (record { arguments = S.arguments; pass = λ _. inner-step s' h S.pass }) (rw e)

  loses_turned : (now : ℕ) → Turned blocks m t (loses_attempt m (restarted t x)) (losing now o)
  loses_turned now = same_memory (record { arguments = S.arguments; pass = λ _. begins-pass blocks m t.copies x.kept x.commands }) refl

  -- a bank word read for the first time
  remembers_turned : (a : Access) (v : ℕ) → touched_of x (block_of a) ≡ untouched → block_of a < blocks → Past (bank_in m (block_of a)) v
      → Turned blocks m t (first_read m t x a (gives v)) o
  unfolding first_read
  remembers_turned a v u lt h =
      same_memory
      (record { arguments = S.arguments; pass = λ _. remembers (block_of a) (rw S.fit.touched.size (omega (arith, S.most))) S.pass v u h })
      refl

  -- a value is copied into the next copy slot
  copy_turned : (b c r n : ℕ) → touched? (touched_of x b) ≡ true → x.used < 4 → n < 8 → CopiedTo m t.copies x b n
      → Turned blocks m t (copy_tick m t x (PUT b c r) n) o
  unfolding copy_tick copy_by
  copy_turned b c r n u left lt h = go (eqb (suc n) 8) refl
    where
      v : ℕ
      v = stored m.stores (store_of (remembered_of (touched_of x b))) n

      goes_on_lem : (s' : Inner) → inner_committed s' ≡ false
          → (CopiedTo (set_stored m (at 0 t.copies x.used) n (stored m.stores (store_of (remembered_of (touched_of x b))) n)) t.copies x b
          (suc n)
          → AtInner (set_stored m (at 0 t.copies x.used) n (stored m.stores (store_of (remembered_of (touched_of x b))) n)) t.copies x s')
          → Turned blocks m t
          (turn (set_stored m (at 0 t.copies x.used) n (stored m.stores (store_of (remembered_of (touched_of x b))) n)) (stays t x s')
          nothing_done)
          o
      goes_on_lem s' e f =
          record {
            facts = record { arguments = S.arguments; pass = λ _. copies-one x S.memory S.apart (blocks-fit S.fit) b n s' u left lt h f S.pass };
            cells = λ i. refl;
            slots = rw e;
            stores = λ i ne. replace-other [] m.stores (at 0 t.copies x.used) i _ (ne x.used left);
          }

      go : (z : Bool) → eqb (suc n) 8 ≡ z
          → Turned blocks m t
          (copy_by z (set_stored m (at 0 t.copies x.used) n (stored m.stores (store_of (remembered_of (touched_of x b))) n)) t x (PUT b c r) n) o
      go true e = goes_on_lem (again (PUT b c r) 0 loading) refl (λ f q i l. f q i (omega (arith, eqb-true (suc n) 8 e)))
      go false e = goes_on_lem (copying (PUT b c r) (suc n)) refl (λ f. f)

  -- the second reading has ended: GET or PUT goes on, or the transaction restarts
  check_turned : (p now : ℕ) (a : Access) (v : ℕ) {others : List BodyCommand} → t.job.commands ≡ inside (access a) ∷ others
      → Ready m t.copies x a v → AgainFit a x → (z : Bool)
      → Turned blocks m t (check_by z m t x a v) (operation_after p (event_of now (check_by z m t x a v).did) o)
  unfolding check_by event_of
  check_turned p now (GET r b c) v {others} l h A true =
      same_memory (record {
        arguments = S.arguments;
        pass = λ _.
            rw l (got_done r b c v others h
            (subst (λ (y : List BodyCommand). PassFacts blocks m t.copies t.job.registers y x s o.answers) l S.pass));
      }) refl
  check_turned p now (PUT b c r) v {others} l h A true =
      let e : remembered_of (touched_of x b) ≡ A.value = rw A.read in
      let below : b < blocks = S.fit.touched.below b (rw A.read) in
      same_memory (record {
        arguments = S.arguments;
        pass = λ _.
            rw e (copies-all b (rw S.fit.touched.size (omega (arith, S.most))) S.pass S.memory S.apart A.value A.read below
            A.left h (record { offset = c; register = r; others = others; commands = l }));
      }) refl
  check_turned p now a v l h A false = loses_turned now

  again_turned : (p now : ℕ) (a : Access) (v : ℕ) {others : List BodyCommand} → t.job.commands ≡ inside (access a) ∷ others
      → Ready m t.copies x a v → AgainFit a x → (y : Read)
      → Turned blocks m t (again_read m t x a v y) (operation_after p (event_of now (again_read m t x a v y).did) o)
  unfolding again_read event_of
  again_turned p now a v l h A (reads r) = stays_turned (again a v r) refl h
  again_turned p now a v l h A (gives w) = check_turned p now a v l h A (eqb (version_of w) (version_of (remembered_of (touched_of x (block_of a)))))

  -- a tick of the first reading
  first_turned : (a : Access) (r : Reading) → touched_of x (block_of a) ≡ untouched → block_of a < blocks → InReading m (block_of a) r
      → Turned blocks m t (first_read m t x a (read_tick m (bank (block_of a)) r)) o
  unfolding read_tick first_read looking_by
  first_turned a loading u lt h = stays_turned (first a (looking (cell_of m (bank (block_of a))))) refl (now-past (bank_in m (block_of a)))
  first_turned a (looking w) u lt h = go (own m.status w) refl
    where
      go : (z : Bool) → own m.status w ≡ z → Turned blocks m t (first_read m t x a (looking_by z w)) o
      go true e = remembers_turned a w.value u lt (rw (current-own m.status m.saves w e) at h)
      go false e = stays_turned (first a (fetching w)) refl (h, e)
  first_turned a (fetching w) u lt h =
      remembers_turned a (saved m.saves w.task w.count) u lt (rw (current-other m.status m.saves w h.1) at h.0)

  -- GET and PUT, by what the block is so far
  access_turned : (a : Access) {others : List BodyCommand} → t.job.commands ≡ inside (access a) ∷ others → PutRoom x t.job.commands
      → (y : Touched) → touched_of x (block_of a) ≡ y → Turned blocks m t (access_tick m t x a y) o
  unfolding access_tick first_read read_tick
  access_turned a l room untouched e = stays_turned (first a (looking (cell_of m (bank (block_of a))))) refl (now-past (bank_in m (block_of a)))
  access_turned (GET r b c) l room (remembered v) e =
      stays_turned (again (GET r b c) (stored m.stores (store_of v) c) loading) refl (rw e (λ _. refl))
  access_turned (GET r b c) l room (copied v k) e =
      stays_turned (again (GET r b c) (stored m.stores (at 0 t.copies k) c) loading) refl (rw e refl)
  access_turned (PUT b c r) {others} l room (remembered v) e =
      copy_turned b c r 0 (rw e) (room b c r v others l e) (omega arith) (λ q i (z : i < 0). absurd (omega arith))
  access_turned (PUT b c r) {others} l room (copied v k) e =
      let B = blocks-fit S.fit in
      record {
        facts = record {
          arguments = S.arguments;
          pass = λ _.
              rw l (writes x S.memory S.apart B b c r v k (B.below b (rw e)) e
              (subst (λ (y : List BodyCommand). PassFacts blocks m t.copies t.job.registers y x s o.answers) l S.pass));
        };
        cells = λ i. refl;
        slots = refl;
        stores = λ i ne. replace-other [] m.stores (at 0 t.copies k) i _ (ne k (omega (arith, B.slot b v k e, B.most)));
      }

  -- COMMIT: nothing touched, spent, or the exchange is to start
  commit_turned : (p now : ℕ) (y z : Bool)
      → Turned blocks m t (commit_command_by y z m t x) (operation_after p (event_of now (commit_command_by y z m t x).did) o)
  unfolding commit_command_by event_of
  commit_turned p now true z =
      same_memory (done_facts blocks m (rest t.job.commands) t t.job.registers [] t.copies _)
      (done-slots (rest t.job.commands) t t.job.registers [] t.copies)
  commit_turned p now false true = same_memory tt refl
  commit_turned p now false false = stays_turned (committing (exchange_of (gather t.copies 0 x.blocks))) refl tt

  -- a command that no transaction has
  nothing_turned : {d : Deed} → inner_committed s ≡ false → Turned blocks m t (turn m t d) o
  nothing_turned y = same_memory (rw S.phase (record { arguments = S.arguments; pass = λ _. S.pass })) (rw (S.phase, y))

  computed_turned : (c : BodyCommand) (rs : List ℕ) (l : List BodyCommand) → t.job.commands ≡ c ∷ l → ((b : ℕ) → PutAtWork b (c ∷ l) → ⊥)
      → until_commit (c ∷ l) ≡ c ∷ until_commit l
      → ((bs : List Block) (q : Plain) → q.registers ≡ t.job.registers → pass_by bs q c ≡ computes q rs)
      → Turned blocks m t (turn m (goes_on t rs x) nothing_done) o
  computed_turned c rs l e np u f =
      same_memory (record {
        arguments = S.arguments;
        pass = λ _.
            rw e (computed c l rs np u f
            (subst (λ (y : List BodyCommand). PassFacts blocks m t.copies t.job.registers y x s o.answers) e S.pass));
      }) refl

  -- what GET and PUT do before their second reading means nothing for the operation
  first_quiet : (a : Access) (y : Read) → (first_read m t x a y).did ≡ nothing_done
  unfolding first_read
  first_quiet a (reads r) = refl
  first_quiet a (gives v) = refl

  copy_quiet : (a : Access) (n : ℕ) → (copy_tick m t x a n).did ≡ nothing_done
  unfolding copy_tick copy_by
  copy_quiet a n = go (eqb (suc n) 8) _
    where
      go : (z : Bool) (k : Memory) → (copy_by z k t x a n).did ≡ nothing_done
      go true k = refl
      go false k = refl

  access_quiet : (a : Access) (y : Touched) → (access_tick m t x a y).did ≡ nothing_done
  unfolding access_tick
  access_quiet a untouched = first_quiet a (read_tick m (bank (block_of a)) loading)
  access_quiet (GET r b c) (remembered v) = refl
  access_quiet (GET r b c) (copied v k) = refl
  access_quiet (PUT b c r) (remembered v) = copy_quiet (PUT b c r) 0
  access_quiet (PUT b c r) (copied v k) = refl

  quietly : (p now : ℕ) (u : Turn) → u.did ≡ nothing_done → Turned blocks m t u o → Turned blocks m t u (operation_after p (event_of now u.did) o)
  unfolding event_of
  quietly p now u e T = subst (λ (d : Deed). Turned blocks m t u (operation_after p (event_of now d) o)) (sym e) T

  command_turned : (p now : ℕ) (l : List BodyCommand) → inner_committed s ≡ false → t.job.commands ≡ l → PutRoom x t.job.commands
      → Turned blocks m t (command_tick m t x l) (operation_after p (event_of now (command_tick m t x l).did) o)
  unfolding command_tick event_of pass_by until_commit
  command_turned p now [] y e room = nothing_turned y
  command_turned p now (LOAD r v ∷ l) y e room =
      computed_turned (LOAD r v) (loaded t.job.registers r v) l e (λ b w. impossible (cc w.commands)) refl (λ bs q h. rw h)
  command_turned p now (ADD r k ∷ l) y e room =
      computed_turned (ADD r k) (added t.job.registers r k) l e (λ b w. impossible (cc w.commands)) refl (λ bs q h. rw h)
  command_turned p now (inside (access a) ∷ l) y e room =
      quietly p now _ (access_quiet a (touched_of x (block_of a))) (access_turned a e room (touched_of x (block_of a)) refl)
  command_turned p now (inside COMMIT ∷ l) y e room = commit_turned p now (nothing? x.blocks) (spent? x.blocks)
  command_turned p now (outside c ∷ l) y e room = nothing_turned y

-- EVERY STATEMENT OUTSIDE THE EXCHANGE
abbrev pub BeforeExchange : Transaction → List BodyCommand → Inner → Type 0
BeforeExchange x l between = PutRoom x l
BeforeExchange x l (first a r) = Unit {0}
BeforeExchange x l (copying a n) = Unit {0}
BeforeExchange x l (again a v r) = Unit {0}
BeforeExchange x l (committing e) = ⊥

pub pass_turned : {words blocks : ℕ} {m : Memory} {t : Task} {x : Transaction} {o : Operation} (p now : ℕ) (s : Inner)
    → BeforeExchange x t.job.commands s → PassSituation words blocks m t x s o
    → Turned blocks m t (transaction_tick p m t x s) (operation_after p (event_of now (transaction_tick p m t x s).did) o)
unfolding transaction_tick event_of
pass_turned {t = t} p now between room S = command_turned S p now t.job.commands refl refl room
pass_turned {m = m} p now (first a r) out S =
    quietly S p now _ (first_quiet S a (read_tick m (bank (block_of a)) r))
    (first_turned S a r S.fit.inner.not_yet S.fit.inner.at_work.block S.pass.inner)
pass_turned p now (copying (GET r b c) n) out S = absurd (true≢false (sym S.fit.inner.put))
pass_turned p now (copying (PUT b c r) n) out S =
    let F = S.fit.inner in
    quietly S p now _ (copy_quiet S (PUT b c r) n) (copy_turned S b c r n (rw F.first.read) F.first.left F.most S.pass.inner)
pass_turned {m = m} p now (again a v r) out S =
    let F = S.fit.inner in again_turned S p now a v F.at_work.commands S.pass.inner F.again (read_tick m (bank (block_of a)) r)
pass_turned p now (committing e) out S = absurd out
