-- The invariants of the transaction layer: versions, the owners of the block stores, and each pass as the plain machine does it.
use Prim.Native.Nat.{ℕ, suc, ◌<◌, ◌≤◌}
use mathlib.Core.Bool.{Bool, true, false}
use mathlib.Core.Path.{◌≡◌, subst}
use mathlib.Core.List.{List, [], ◌∷◌}
use mathlib.Core.Option.{Option, none, some}
use lib.ListN.{length}
use Rattle.model.specs.Lists.{at}
use Rattle.model.specs.Command.{Access, GET, PUT, Block, access, BodyCommand, inside, no_block}
use Rattle.model.specs.Word.{Memory, stored, own, current, current_of, Reading, loading, looking, fetching}
use Rattle.model.specs.Job.{Touched, untouched, remembered, copied, Transaction, Inner, between, first, copying}
use Rattle.model.specs.Job.{again, committing, Phase, idle, plain, reading, exchanging, transacting, Task}
use Rattle.model.specs.Transaction.{bank, version_of, store_of, block_of, remembered_of, touched_of, taken_back}
use Rattle.model.specs.Machine.{task_at}
use Rattle.model.specs.Plain.{Pass, passed, pass_of}
use Rattle.model.specs.History.{Operation}
use Rattle.model.specs.Arguments.{transaction_of, until_commit}
use Rattle.model.proofs.Fit.Transaction.{touched?}
use Rattle.model.proofs.History.Moves.{inner_committed}

-- VERSIONS
-- the current value of block b's bank word
abbrev pub bank_in : Memory → ℕ → ℕ
bank_in m b = current_of m (bank b)

-- a value that a bank word had: it has it still, or its version has risen
pub record Past (now v : ℕ) : Type 0 where
  pub older : version_of v ≤ version_of now
  pub same : version_of now ≡ version_of v → now ≡ v

-- what a tick does to the current value of a bank word
pub data Change (before after : ℕ) : Type 0 where
  unchanged : after ≡ before → Change before after
  version_raised : version_of after ≡ suc (version_of before) → Change before after

-- OWNERS
abbrev pub slots_by : Bool → List ℕ → List Touched → List ℕ
slots_by true copies ts = taken_back copies ts
slots_by false copies ts = copies

-- a task's copy slots; from the yes of its exchange on, the used ones count as exchanged
abbrev pub slots_in : List ℕ → Phase → List ℕ
slots_in copies idle = copies
slots_in copies plain = copies
slots_in copies (reading r w s) = copies
slots_in copies (exchanging r x) = copies
slots_in copies (transacting x s) = slots_by (inner_committed s) copies x.blocks

abbrev pub slots_of : Task → List ℕ
slots_of t = slots_in t.copies t.job.phase

-- who owns a block store: a block, or a task by one of its copy slots
pub data Owner : Type 0 where
  block : ℕ → Owner
  slot : ℕ → ℕ → Owner

-- the owners in a sheet with that many blocks and tasks
abbrev pub OwnerDeclared : ℕ → ℕ → Owner → Type 0
OwnerDeclared blocks tasks (block b) = b < blocks
OwnerDeclared blocks tasks (slot p k) = (p < tasks) × (k < 4)

abbrev pub place : (ℕ → ℕ) → (ℕ → List ℕ) → Owner → ℕ
place banks slots (block b) = store_of (banks b)
place banks slots (slot p k) = at 0 (slots p) k

-- each owner has a store of its own
pub record Owners (blocks tasks : ℕ) (banks : ℕ → ℕ) (slots : ℕ → List ℕ) : Type 0 where
  pub different : (o u : Owner) → OwnerDeclared blocks tasks o → OwnerDeclared blocks tasks u → place banks slots o ≡ place banks slots u → o ≡ u
  pub below : (o : Owner) → OwnerDeclared blocks tasks o → place banks slots o < 48

-- THE PASS
-- the command at work is a PUT to block b
pub record PutAtWork (b : ℕ) (l : List BodyCommand) : Type 0 where
  pub offset : ℕ
  pub register : ℕ
  pub others : List BodyCommand
  pub commands : l ≡ inside (access (PUT b offset register)) ∷ others

-- The plain machine's copy of block b beside the store in the block's copy slot; `values` are the block's own, `l` the commands to do.
-- A first PUT has copied before it writes: then the plain machine has no copy yet.
abbrev pub SameCopy : List (List ℕ) → List ℕ → List ℕ → ℕ → List BodyCommand → Touched → Option (List ℕ) → Type 0
SameCopy stores copies values b l untouched none = Unit {0}
SameCopy stores copies values b l untouched (some vs) = ⊥
SameCopy stores copies values b l (remembered v) none = Unit {0}
SameCopy stores copies values b l (remembered v) (some vs) = ⊥
SameCopy stores copies values b l (copied v k) none = (values ≡ at [] stores (at 0 copies k)) × PutAtWork b l
SameCopy stores copies values b l (copied v k) (some vs) = vs ≡ at [] stores (at 0 copies k)

-- the plain machine at q stands where the pass stands
pub record Beside (stores : List (List ℕ)) (copies registers answers : List ℕ) (ts : List Touched) (l : List BodyCommand) (bs : List Block)
    (q : Pass) : Type 0 where
  pub same_registers : q.registers ≡ registers
  pub same_answers : q.answers ≡ answers
  pub size : length q.copies ≡ length bs
  pub same_copies : (b : ℕ) → SameCopy stores copies (at no_block bs b).values b l (at untouched ts b) (at none q.copies b)

-- what each touched block's bank word held still stands, and bs has the values of its store
pub record Agrees (blocks : ℕ) (banks : ℕ → ℕ) (stores : List (List ℕ)) (ts : List Touched) (bs : List Block) : Type 0 where
  pub size : length bs ≡ blocks
  pub still : (b : ℕ) → touched? (at untouched ts b) ≡ true → banks b ≡ remembered_of (at untouched ts b)
  pub values : (b : ℕ) → touched? (at untouched ts b) ≡ true → (at no_block bs b).values ≡ at [] stores (store_of (remembered_of (at untouched ts b)))

-- the plain machine on its way: the commands still to come lead it where the whole transaction leads
pub record Way (stores : List (List ℕ)) (copies registers answers : List ℕ) (ts : List Touched) (l : List BodyCommand) (kept : List ℕ)
    (begun : List BodyCommand) (bs : List Block) : Type 0 where
  pub pass : Pass
  pub beside : Beside stores copies registers answers ts l bs pass
  pub leads : passed bs pass (until_commit l) ≡ pass_of bs kept (until_commit begun)

-- WHAT AN INNER STEP KNOWS
-- a bank word was loaded
abbrev pub InReading : Memory → ℕ → Reading → Type 0
InReading m b loading = Unit {0}
InReading m b (looking w) = Past (bank_in m b) (current m.status m.saves w)
InReading m b (fetching w) = Past (bank_in m b) (current m.status m.saves w) × (own m.status w ≡ false)

-- the first n values stand in the next copy slot, if the bank word is still the remembered one
abbrev pub CopiedTo : Memory → List ℕ → Transaction → ℕ → ℕ → Type 0
CopiedTo m copies x b n =
    bank_in m b ≡ remembered_of (touched_of x b) → (o : ℕ) → o < n
    → stored m.stores (at 0 copies x.used) o ≡ stored m.stores (store_of (remembered_of (touched_of x b))) o

-- the value that GET has fetched
abbrev pub Fetched : Memory → List ℕ → ℕ → ℕ → ℕ → Touched → Type 0
Fetched m copies b o v untouched = ⊥
Fetched m copies b o v (remembered w) = bank_in m b ≡ w → v ≡ stored m.stores (store_of w) o
Fetched m copies b o v (copied w k) = v ≡ stored m.stores (at 0 copies k) o

abbrev pub Ready : Memory → List ℕ → Transaction → Access → ℕ → Type 0
Ready m copies x (GET r b o) v = Fetched m copies b o v (touched_of x b)
Ready m copies x (PUT b o r) v = CopiedTo m copies x b 8

abbrev pub AtInner : Memory → List ℕ → Transaction → Inner → Type 0
AtInner m copies x between = Unit {0}
AtInner m copies x (first a r) = InReading m (block_of a) r
AtInner m copies x (copying a n) = CopiedTo m copies x (block_of a) n
AtInner m copies x (again a v r) = Ready m copies x a v
AtInner m copies x (committing e) = Unit {0}

-- Before the yes of its exchange: every remembered value is past, and the plain machine passes where the pass stands,
-- whatever the blocks hold that agrees with what the pass remembers.
pub record PassFacts (blocks : ℕ) (m : Memory) (copies registers : List ℕ) (l : List BodyCommand) (x : Transaction) (s : Inner) (answers : List ℕ) :
    Type 0 where
  pub past : (b : ℕ) → touched? (touched_of x b) ≡ true → Past (bank_in m b) (remembered_of (touched_of x b))
  pub way : (bs : List Block) → Agrees blocks (bank_in m) m.stores x.blocks bs
      → Way m.stores copies registers answers x.blocks l x.kept x.commands bs
  pub inner : AtInner m copies x s

-- THE INVARIANT, with the latest operation of each task; after the yes nothing is said of a pass
pub record TransactionFacts (blocks : ℕ) (m : Memory) (copies registers : List ℕ) (l : List BodyCommand) (x : Transaction) (s : Inner)
    (o : Operation) : Type 0 where
  pub arguments : o.arguments ≡ transaction_of x.kept (until_commit x.commands)
  pub pass : inner_committed s ≡ false → PassFacts blocks m copies registers l x s o.answers

abbrev pub PhaseFacts : ℕ → Memory → List ℕ → List ℕ → List BodyCommand → Operation → Phase → Type 0
PhaseFacts blocks m copies registers l o idle = Unit {0}
PhaseFacts blocks m copies registers l o plain = Unit {0}
PhaseFacts blocks m copies registers l o (reading r w s) = Unit {0}
PhaseFacts blocks m copies registers l o (exchanging r x) = Unit {0}
PhaseFacts blocks m copies registers l o (transacting x s) = TransactionFacts blocks m copies registers l x s o

abbrev pub TaskFacts : ℕ → Memory → Task → Operation → Type 0
TaskFacts blocks m t o = PhaseFacts blocks m t.copies t.job.registers t.job.commands o t.job.phase

-- what is said of a task in a transaction
pub transaction_facts : (blocks : ℕ) (m : Memory) (t : Task) (o : Operation) {x : Transaction} {s : Inner} → t.job.phase ≡ transacting x s
    → TaskFacts blocks m t o → TransactionFacts blocks m t.copies t.job.registers t.job.commands x s o
transaction_facts blocks m t o e F = subst (λ (f : Phase). PhaseFacts blocks m t.copies t.job.registers t.job.commands o f) e F

-- of a sheet with that many blocks and tasks
pub record Transactions (blocks tasks : ℕ) (m : Memory) (ts : List Task) (operations : ℕ → Operation) : Type 0 where
  pub owners : Owners blocks tasks (bank_in m) (λ p. slots_of (task_at ts p))
  pub task : (p : ℕ) → p < tasks → TaskFacts blocks m (task_at ts p) (operations p)
