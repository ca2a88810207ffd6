-- What each task does to the cells, by its phase, and what each statement does to them: nothing, a Load, a tick of a reading, a tick of an exchange.
use Prim.Native.Nat.{ℕ, suc}
use mathlib.Core.Bool.{Bool, true, false}
use mathlib.Core.Path.{◌≡◌, refl, ◌∙◌, subst}
use mathlib.Core.List.{List, [], ◌∷◌, map}
use lib.Dec.{eqb}
use Rattle.model.specs.Lists.{replace}
use Rattle.model.specs.Command.{Access, GET, PUT, READ, PAIR, SWAP, BEGIN, access, COMMIT, BodyCommand, LOAD, ADD, outside, inside}
use Rattle.model.specs.Word.{Word, Memory, memory, cell_of, own, Reading, loading, looking, fetching, Read, reads, gives, read_tick, looking_by}
use Rattle.model.specs.Exchange.{Entry, Exchange, exchange_of, Exchanged, goes, ends, exchange_tick}
use Rattle.model.specs.Job.{Touched, untouched, remembered, copied, Transaction, Inner, between, first, copying, again}
use Rattle.model.specs.Job.{committing, Phase, idle, plain, exchanging, transacting, Task, rest, done_by, reading as reading_phase}
use Rattle.model.specs.Transaction.{bank, block_of, version_of, remembered_of, touched_of, nothing?, spent?, first_read, copy_by, copy_tick}
use Rattle.model.specs.Transaction.{access_tick, check_by, again_read, command_tick, transaction_tick, commit_command_by, committing_by}
use Rattle.model.specs.Machine.{answer, no_task, task_at, read_by, swap_by, plain_tick, statement}
use Rattle.model.proofs.Lists.{at_map}
use Rattle.model.proofs.Exchanges.Act.{Act, free, reading, act_at, act_of, act_after, memory_after}
use Rattle.model.proofs.Exchanges.Kept.{act_read}

-- a reading that has loaded nothing yet does nothing to the cells
abbrev pub read_act : ℕ → Reading → Act
read_act c loading = free
read_act c (looking w) = reading c (looking w)
read_act c (fetching w) = reading c (fetching w)

abbrev pub inner_act : Inner → Act
inner_act between = free
inner_act (first a r) = read_act (bank (block_of a)) r
inner_act (copying a n) = free
inner_act (again a v r) = read_act (bank (block_of a)) r
inner_act (committing e) = act_of e

abbrev pub act_in : Phase → Act
act_in idle = free
act_in plain = free
act_in (reading_phase r w s) = read_act w s
act_in (exchanging r x) = act_of x
act_in (transacting x s) = inner_act s

abbrev pub task_act : Task → Act
task_act t = act_in t.job.phase

abbrev pub acts_of : List Task → List Act
acts_of ts = map task_act ts

pub act-at : (ts : List Task) (p : ℕ) → act_at (acts_of ts) p ≡ act_in (task_at ts p).job.phase
act-at ts p = at_map task_act no_task ts p

-- only block stores may differ
pub record SameCells (m n : Memory) : Type 0 where
  pub stores : List (List ℕ)
  pub is : n ≡ memory m.cells m.status m.saves stores

-- the exchange that a statement of task t is a tick of
pub data ExchangeIn (t : Task) : Exchange → Type 0 where
  begins : (r : ℕ) (l : List BodyCommand) → t.job.phase ≡ plain → t.job.commands ≡ outside (SWAP r) ∷ l
      → ExchangeIn t (exchange_of t.job.pairs)
  goes_on : (r : ℕ) {x : Exchange} → t.job.phase ≡ exchanging r x → ExchangeIn t x
  commits : (y : Transaction) {x : Exchange} → t.job.phase ≡ transacting y (committing x) → ExchangeIn t x

-- WHAT A STATEMENT OF TASK p DOES TO THE CELLS, with the acts before and after
pub data Touches (p : ℕ) (m : Memory) (t : Task) : Act → Memory → Act → Type 0 where
  nothing : {n : Memory} → SameCells m n → Touches p m t free n free
  loads : (c : ℕ) → Touches p m t free m (reading c (looking (cell_of m c)))
  looks : {v : Act} (c : ℕ) (r : Reading) → v ≡ act_read c (read_tick m c r) → Touches p m t (reading c r) m v
  exchanges : (x : Exchange) → ExchangeIn t x
      → Touches p m t (act_of x) (memory_after (exchange_tick p m x x.step)) (act_after (exchange_tick p m x x.step))

same_memory : (m : Memory) → SameCells m m
same_memory m = record { stores = m.stores; is = refl }

done_free : (l : List BodyCommand) (t : Task) (rs : List ℕ) (ps : List Entry) (cs : List ℕ) → act_in (done_by l t rs ps cs).job.phase ≡ free
unfolding done_by
done_free [] t rs ps cs = refl
done_free (c ∷ l) t rs ps cs = refl

module _ (p : ℕ) (m : Memory) (t : Task) where
  stays : {v : Act} → v ≡ free → Touches p m t free m v
  stays e = rw e (nothing (same_memory m))

  plain_touches : t.job.phase ≡ plain → (l : List BodyCommand) → t.job.commands ≡ l
      → Touches p m t free (plain_tick p m t l).memory (act_in (plain_tick p m t l).task.job.phase)
  unfolding plain_tick read_tick read_by exchange_tick swap_by
  plain_touches e [] k = stays (rw e)
  plain_touches e (LOAD r v ∷ l) k = stays (done_free (rest t.job.commands) t _ _ _)
  plain_touches e (ADD r q ∷ l) k = stays (done_free (rest t.job.commands) t _ _ _)
  plain_touches e (outside (READ r w) ∷ l) k = loads w
  plain_touches e (outside (PAIR w o n) ∷ l) k = stays (done_free (rest t.job.commands) t _ _ _)
  plain_touches e (outside (SWAP r) ∷ l) k = exchanges (exchange_of t.job.pairs) (begins r l e k)
  plain_touches e (outside BEGIN ∷ l) k = stays refl
  plain_touches e (inside c ∷ l) k = stays (rw e)

  -- READINGS
  abbrev after_read : ℕ → Read → Act
  after_read c (reads r) = read_act c r
  after_read c (gives v) = free

  look-after : (c : ℕ) (b : Bool) (w : Word) → after_read c (looking_by b w) ≡ act_read c (looking_by b w)
  unfolding looking_by
  look-after c true w = refl
  look-after c false w = refl

  read_touches : (c : ℕ) (r : Reading) (v : Act) → v ≡ after_read c (read_tick m c r) → Touches p m t (read_act c r) m v
  unfolding read_tick
  read_touches c loading v e = rw e (loads c)
  read_touches c (looking w) v e = looks c (looking w) (e ∙ look-after c (own m.status w) w)
  read_touches c (fetching w) v e = looks c (fetching w) e

  word_touches : (r w : ℕ) (s : Reading) (o : Read) → read_tick m w s ≡ o
      → Touches p m t (read_act w s) (read_by m t r w o).memory (act_in (read_by m t r w o).task.job.phase)
  unfolding read_by
  word_touches r w s (reads s') e = read_touches w s (read_act w s') (rw e)
  word_touches r w s (gives v) e =
      read_touches w s _ (rw e (done_free (rest t.job.commands) t (replace t.job.registers r v) t.job.pairs t.copies))

  -- IN AN EXCHANGE
  swap_touches : (r : ℕ) (x : Exchange) → t.job.phase ≡ exchanging r x → (o : Exchanged) → exchange_tick p m x x.step ≡ o
      → Touches p m t (act_of x) (swap_by t r x o).memory (act_in (swap_by t r x o).task.job.phase)
  unfolding swap_by
  swap_touches r x k (goes m' x') e = subst (λ (o : Exchanged). Touches p m t (act_of x) (memory_after o) (act_after o)) e (exchanges x (goes_on r k))
  swap_touches r x k (ends m' yes?) e =
      rw (done_free (rest t.job.commands) t (replace t.job.registers r (answer yes?)) [] t.copies)
      (subst (λ (o : Exchanged). Touches p m t (act_of x) (memory_after o) (act_after o)) e (exchanges x (goes_on r k)))

  -- IN A TRANSACTION
  module _ (x : Transaction) where
    first_touches : (a : Access) (r : Reading) (o : Read) → read_tick m (bank (block_of a)) r ≡ o
        → Touches p m t (read_act (bank (block_of a)) r) (first_read m t x a o).memory (act_in (first_read m t x a o).task.job.phase)
    unfolding first_read
    first_touches a r (reads s) e = read_touches (bank (block_of a)) r (read_act (bank (block_of a)) s) (rw e)
    first_touches a r (gives v) e = read_touches (bank (block_of a)) r free (rw e)

    check-memory : (b : Bool) (a : Access) (v : ℕ) → (check_by b m t x a v).memory ≡ m
    unfolding check_by
    check-memory true (GET r b o) v = refl
    check-memory true (PUT b o r) v = refl
    check-memory false a v = refl

    check_free : (b : Bool) (a : Access) (v : ℕ) → act_in (check_by b m t x a v).task.job.phase ≡ free
    unfolding check_by
    check_free true (GET r b o) v = refl
    check_free true (PUT b o r) v = refl
    check_free false a v = refl

    again_touches : (a : Access) (v : ℕ) (r : Reading) (o : Read) → read_tick m (bank (block_of a)) r ≡ o
        → Touches p m t (read_act (bank (block_of a)) r) (again_read m t x a v o).memory (act_in (again_read m t x a v o).task.job.phase)
    unfolding again_read
    again_touches a v r (reads s) e = read_touches (bank (block_of a)) r (read_act (bank (block_of a)) s) (rw e)
    again_touches a v r (gives w) e =
        let same : Bool = eqb (version_of w) (version_of (remembered_of (touched_of x (block_of a)))) in
        rw (check-memory same a v) (read_touches (bank (block_of a)) r _ (rw e (check_free same a v)))

    copy_touches : (b : Bool) (n : Memory) (a : Access) (k : ℕ) → SameCells m n
        → Touches p m t free (copy_by b n t x a k).memory (act_in (copy_by b n t x a k).task.job.phase)
    unfolding copy_by
    copy_touches true n a k s = nothing s
    copy_touches false n a k s = nothing s

    copying_touches : (a : Access) (k : ℕ) → Touches p m t free (copy_tick m t x a k).memory (act_in (copy_tick m t x a k).task.job.phase)
    unfolding copy_tick
    copying_touches a k = copy_touches (eqb (suc k) 8) _ a k (record { stores = _; is = refl })

    access_touches : (a : Access) (b : Touched) → Touches p m t free (access_tick m t x a b).memory (act_in (access_tick m t x a b).task.job.phase)
    unfolding access_tick
    access_touches a untouched = first_touches a loading (read_tick m (bank (block_of a)) loading) refl
    access_touches (GET r b o) (remembered v) = stays refl
    access_touches (GET r b o) (copied v k) = stays refl
    access_touches (PUT b o r) (remembered v) = copying_touches (PUT b o r) 0
    access_touches (PUT b o r) (copied v k) = nothing (record { stores = _; is = refl })

    commit_touches : (n s : Bool) → Touches p m t free (commit_command_by n s m t x).memory (act_in (commit_command_by n s m t x).task.job.phase)
    unfolding commit_command_by
    commit_touches true s = stays (done_free (rest t.job.commands) t t.job.registers [] t.copies)
    commit_touches false true = stays refl
    commit_touches false false = stays refl

    command_touches : t.job.phase ≡ transacting x between → (l : List BodyCommand)
        → Touches p m t free (command_tick m t x l).memory (act_in (command_tick m t x l).task.job.phase)
    unfolding command_tick
    command_touches e [] = stays (rw e)
    command_touches e (LOAD r v ∷ l) = stays refl
    command_touches e (ADD r q ∷ l) = stays refl
    command_touches e (inside (access a) ∷ l) = access_touches a (touched_of x (block_of a))
    command_touches e (inside COMMIT ∷ l) = commit_touches (nothing? x.blocks) (spent? x.blocks)
    command_touches e (outside c ∷ l) = stays (rw e)

    committing_touches : (e : Exchange) → t.job.phase ≡ transacting x (committing e) → (o : Exchanged) → exchange_tick p m e e.step ≡ o
        → Touches p m t (act_of e) (committing_by t x e o).memory (act_in (committing_by t x e o).task.job.phase)
    unfolding committing_by
    committing_touches e k (goes m' e') q =
        subst (λ (o : Exchanged). Touches p m t (act_of e) (memory_after o) (act_after o)) q (exchanges e (commits x k))
    committing_touches e k (ends m' true) q =
        rw (done_free (rest t.job.commands) t)
        (subst (λ (o : Exchanged). Touches p m t (act_of e) (memory_after o) (act_after o)) q (exchanges e (commits x k)))
    committing_touches e k (ends m' false) q =
        subst (λ (o : Exchanged). Touches p m t (act_of e) (memory_after o) (act_after o)) q (exchanges e (commits x k))

    inner_touches : (s : Inner) → t.job.phase ≡ transacting x s
        → Touches p m t (inner_act s) (transaction_tick p m t x s).memory (act_in (transaction_tick p m t x s).task.job.phase)
    unfolding transaction_tick
    inner_touches between e = command_touches e t.job.commands
    inner_touches (first a r) e = first_touches a r (read_tick m (bank (block_of a)) r) refl
    inner_touches (copying a n) e = copying_touches a n
    inner_touches (again a v r) e = again_touches a v r (read_tick m (bank (block_of a)) r) refl
    inner_touches (committing c) e = committing_touches c e (exchange_tick p m c c.step) refl

  pub touches : (f : Phase) → t.job.phase ≡ f → Touches p m t (act_in f) (statement p m t f).memory (act_in (statement p m t f).task.job.phase)
  unfolding statement
  touches idle e = stays (rw e)
  touches plain e = plain_touches e t.job.commands refl
  touches (reading_phase r w s) e = word_touches r w s (read_tick m w s) refl
  touches (exchanging r x) e = swap_touches r x e (exchange_tick p m x x.step) refl
  touches (transacting x s) e = inner_touches x s e
