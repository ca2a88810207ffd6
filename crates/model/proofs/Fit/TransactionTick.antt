-- A tick of a transaction keeps memory and task well formed: GET and PUT, COMMIT, and all its inner steps.
use Prim.Native.Nat.{ℕ, suc, ◌+◌, ◌<◌, ◌≤◌}
use mathlib.Core.Path.{◌≡◌, refl, sym, ◌∙◌, ap, subst}
use mathlib.Core.Bool.{Bool, true, false, true≢false, false≢true}
use mathlib.Core.List.{List, [], ◌∷◌}
use native.Mathlib.Omega.{arith}
use lib.Dec.{eqb}
use lib.ListN.{length}
use borrow.Author.Tests.{eqb-false}
use Rattle.model.specs.Lists.{at, replace}
use Rattle.model.specs.Command.{Access, GET, PUT, Inside, access, COMMIT, BodyCommand, LOAD, ADD, outside, inside}
use Rattle.model.specs.Fault.{Body, among}
use Rattle.model.specs.Sheet.{named, after, in_body, transaction, after_body, after_inside}
use Rattle.model.specs.Word.{Memory, stored, set_stored, loading, Read, reads, gives, read_tick}
use Rattle.model.specs.Job.{Touched, untouched, remembered, copied, Transaction, Inner, between, Task, turn}
use Rattle.model.specs.Job.{rest, ended, done, first, copying, again, committing, loses_attempt, Deed}
use Rattle.model.specs.Transaction.{bank, version_of, store_of, block_of, remembered_of, touched_of, touch, within, stays, goes_on}
use Rattle.model.specs.Transaction.{restarted, first_read, copy_by, copy_tick, access_tick, check_by, again_read, nothing?, spent?}
use Rattle.model.specs.Transaction.{gather, taken_back, command_tick, transaction_tick, commit_command_by, committing_by, inside_tick}
use Rattle.model.specs.Exchange.{Exchanged, goes, ends, exchange_tick, Exchange}
use Rattle.model.proofs.Lists.{length-replace}
use Rattle.model.proofs.Fit.Elements.{include-same}
use Rattle.model.proofs.Fit.Memory.{MemoryFit, stored_fit}
use Rattle.model.proofs.Fit.Transaction.{copied?, named_so_far, BlocksFit, AtWork, PutFirst, AgainFit, InnerFit, TransactionFit}
use Rattle.model.proofs.Fit.Blocks.{count_fewer, blocks-read, blocks-copied, gather-some, gather-entries}
use Rattle.model.proofs.Fit.Pass.{PassFit, first-command, named_fit, pass_access, transaction_fit}
use Rattle.model.proofs.Fit.Pass.{pass_start, not-over, pass_load, pass_add, pass_of}
use Rattle.model.proofs.Fit.Counts.{same-counts, lost-counts, spent-counts}
use Rattle.model.proofs.Fit.Outside.{TurnFit, done_fit, no_entries, no_unloaded, open_next}
use Rattle.model.proofs.Fit.Exchange.{EntriesFit, ExchangedFit, exchange-start, exchange_fit}
use Rattle.model.proofs.Fit.Machine.{OutsideFit}

-- THE ACCESS AT WORK
named-touched : (a : Access) (b : Body) → among (block_of a) (named a b).touched ≡ true
named-touched (GET r n o) b = include-same n b.touched
named-touched (PUT n o r) b = include-same n b.touched

module _ {words blocks : ℕ} {l : List BodyCommand} {x : Transaction} where
  pub at-work : (a : Access) → PassFit words blocks (inside (access a) ∷ l) x → AtWork blocks a (inside (access a) ∷ l)
  at-work (GET r n o) f =
      let c = (first-command f.inside (inside (access (GET r n o))) l f.faultless).fits in
      record { others = l; commands = refl; register = c.register; block = c.block; offset = c.offset }
  at-work (PUT n o r) f =
      let c = (first-command f.inside (inside (access (PUT n o r))) l f.faultless).fits in
      record { others = l; commands = refl; register = c.register; block = c.block; offset = c.offset }

  -- a copy slot is left for a block that was not PUT yet
  pub put_first : {n o r v : ℕ} → PassFit words blocks (inside (access (PUT n o r)) ∷ l) x → touched_of x n ≡ remembered v → PutFirst (PUT n o r) x
  put_first {n} {o} {r} {v} f e =
      let s = named_fit f.inside (inside (access (PUT n o r)) ∷ l) f.faultless in
      let fewer =
      count_fewer copied? x.blocks (named (PUT n o r) f.known.body).puts n f.touched.put (include-same n f.known.body.puts) (rw e) in
      record { value = v; read = e; left = omega (arith, fewer, s.puts, f.touched.slots) }

pass_touch : {words blocks : ℕ} {l : List BodyCommand} {x : Transaction} (f : PassFit words blocks l x) (b : ℕ) (s : Touched) (n : ℕ)
    → BlocksFit blocks (named_so_far l f.known.body) (replace x.blocks b s) n → PassFit words blocks l (touch x b s n)
pass_touch f b s n t = record { kept = f.kept; begun = f.begun; known = f.known; inside = f.inside; faultless = f.faultless; touched = t }

-- WHAT A TICK LEAVES OF THE TASK
module _ {words blocks : ℕ} (t : Task) (hr : length t.job.registers ≡ 8) (hc : length t.copies ≡ 4) where
  pub within_fit : {m : Memory} {d : Deed} {l : List BodyCommand} {rs : List ℕ} {x : Transaction} {s : Inner} → MemoryFit m → length rs ≡ 8
      → PassFit words blocks l x → InnerFit blocks t.copies l x s → TurnFit words blocks t (turn m (within t l rs x s) d)
  within_fit g h f i = record { memory = g; body = refl; registers = h; copies = hc; counts = same-counts refl refl; phase = transaction_fit f i }

  pub stays_fit : {m : Memory} {d : Deed} (l : List BodyCommand) {x : Transaction} {s : Inner} → t.job.commands ≡ l → MemoryFit m
      → PassFit words blocks l x → InnerFit blocks t.copies l x s → TurnFit words blocks t (turn m (stays t x s) d)
  stays_fit {m} {d} l {x} {s} e g f i =
      subst (λ (z : List BodyCommand). TurnFit words blocks t (turn m (within t z t.job.registers x s) d)) (sym e) (within_fit g hr f i)

  pub goes-on_fit : {m : Memory} {d : Deed} {c : BodyCommand} (l : List BodyCommand) {rs : List ℕ} {x : Transaction} → t.job.commands ≡ c ∷ l
      → MemoryFit m → length rs ≡ 8 → PassFit words blocks l x → TurnFit words blocks t (turn m (goes_on t rs x) d)
  goes-on_fit {m} {d} l {rs} {x} e g h f =
      subst (λ (z : List BodyCommand). TurnFit words blocks t (turn m (within t z rs x between) d)) (sym (ap rest e)) (within_fit g h f tt)

  -- an attempt is lost
  pub loses_fit : {m : Memory} {l : List BodyCommand} {x : Transaction} → MemoryFit m → PassFit words blocks l x
      → TurnFit words blocks t (loses_attempt m (restarted t x))
  loses_fit g f = record {
    memory = g;
    body = refl;
    registers = f.kept;
    copies = hc;
    counts = lost-counts refl refl;
    phase = transaction_fit (pass_start f.begun f.kept) tt;
  }

  pub ended_fit : {m : Memory} {d : Deed} → MemoryFit m → TurnFit words blocks t (turn m (ended t) d)
  ended_fit g =
      record { memory = g; body = refl; registers = hr; copies = hc; counts = spent-counts refl refl; phase = record { commands = refl; no_pairs = refl } }

  -- GET AND PUT
  module _ (most : blocks ≤ 16) {m : Memory} (g : MemoryFit m) {x : Transaction} {l : List BodyCommand} where
    pub first-read_fit : (a : Access) → t.job.commands ≡ inside (access a) ∷ l → PassFit words blocks (inside (access a) ∷ l) x
        → touched_of x (block_of a) ≡ untouched → (o : Read) → TurnFit words blocks t (first_read m t x a o)
    unfolding first_read
    first-read_fit a e f u (reads r) = stays_fit (inside (access a) ∷ l) e g f (record { at_work = at-work a f; not_yet = u })
    first-read_fit a e f u (gives v) =
        stays_fit (inside (access a) ∷ l) e g
        (pass_touch f (block_of a) (remembered v) x.used
        (blocks-read f.touched most (block_of a) (at-work a f).block (named-touched a f.known.body) v u))
        tt

    pub copy_fit : (n o r : ℕ) → t.job.commands ≡ inside (access (PUT n o r)) ∷ l → PassFit words blocks (inside (access (PUT n o r)) ∷ l) x
        → PutFirst (PUT n o r) x → (i : ℕ) → i < 8 → TurnFit words blocks t (copy_tick m t x (PUT n o r) i)
    unfolding copy_tick copy_by
    copy_fit n o r e f p i h = go (eqb (suc i) 8) refl
      where
        s : ℕ
        s = at 0 t.copies x.used

        v : ℕ
        v = stored m.stores (store_of (remembered_of (touched_of x n))) i

        go : (b : Bool) → eqb (suc i) 8 ≡ b → TurnFit words blocks t (copy_by b (set_stored m s i v) t x (PUT n o r) i)
        go true q = stays_fit (inside (access (PUT n o r)) ∷ l) e (stored_fit g s i v) f (record { at_work = at-work (PUT n o r) f; again = p })
        go false q =
            let d = eqb-false (suc i) 8 q in
            stays_fit (inside (access (PUT n o r)) ∷ l) e (stored_fit g s i v) f
            (record { at_work = at-work (PUT n o r) f; put = refl; some = omega arith; most = omega arith; first = p })

    pub access_fit : (a : Access) → t.job.commands ≡ inside (access a) ∷ l → PassFit words blocks (inside (access a) ∷ l) x → (s : Touched)
        → touched_of x (block_of a) ≡ s → TurnFit words blocks t (access_tick m t x a s)
    unfolding access_tick
    access_fit (GET r n o) e f untouched q = first-read_fit (GET r n o) e f q (read_tick m (bank n) loading)
    access_fit (GET r n o) e f (remembered v) q =
        stays_fit (inside (access (GET r n o)) ∷ l) e g f (record { at_work = at-work (GET r n o) f; again = rw q })
    access_fit (GET r n o) e f (copied v k) q =
        stays_fit (inside (access (GET r n o)) ∷ l) e g f (record { at_work = at-work (GET r n o) f; again = rw q })
    access_fit (PUT n o r) e f untouched q = first-read_fit (PUT n o r) e f q (read_tick m (bank n) loading)
    access_fit (PUT n o r) e f (remembered v) q = copy_fit n o r e f (put_first f q) 0 (omega arith)
    access_fit (PUT n o r) e f (copied v k) q = goes-on_fit l e (stored_fit g (at 0 t.copies k) o (at 0 t.job.registers r)) hr (pass_access f)

    -- the version read again
    check_fit : (b : Bool) (a : Access) (v : ℕ) → t.job.commands ≡ inside (access a) ∷ l → PassFit words blocks (inside (access a) ∷ l) x
        → AgainFit a x → TurnFit words blocks t (check_by b m t x a v)
    unfolding check_by
    check_fit true (GET r n o) v e f h = goes-on_fit l e g (length-replace t.job.registers r v ∙ hr) (pass_access f)
    check_fit true (PUT n o r) v e f h =
        let w : ℕ = remembered_of (touched_of x n) in
        let read : touched_of x n ≡ remembered w = h.read ∙ ap (λ (s : Touched). remembered (remembered_of s)) (sym h.read) in
        stays_fit (inside (access (PUT n o r)) ∷ l) e g
        (pass_touch f n (copied w x.used) (suc x.used)
        (blocks-copied f.touched most n (at-work (PUT n o r) f).block (named-touched (PUT n o r) f.known.body) w read
        (include-same n f.known.body.puts)))
        tt
    check_fit false a v e f h = loses_fit g f

    pub again_fit : (a : Access) (v : ℕ) → t.job.commands ≡ inside (access a) ∷ l → PassFit words blocks (inside (access a) ∷ l) x → AgainFit a x
        → (o : Read) → TurnFit words blocks t (again_read m t x a v o)
    unfolding again_read
    again_fit a v e f h (reads r) = stays_fit (inside (access a) ∷ l) e g f (record { at_work = at-work a f; again = h })
    again_fit a v e f h (gives w) = check_fit (eqb (version_of w) (version_of (remembered_of (touched_of x (block_of a))))) a v e f h

-- COMMIT
-- the copy slots stay four
pub taken_back_size : (copies : List ℕ) (ts : List Touched) → length (taken_back copies ts) ≡ length copies
unfolding taken_back
taken_back_size copies [] = refl
taken_back_size copies (untouched ∷ ts) = taken_back_size copies ts
taken_back_size copies (remembered v ∷ ts) = taken_back_size copies ts
taken_back_size copies (copied v k ∷ ts) = taken_back_size (replace copies k (store_of v)) ts ∙ length-replace copies k (store_of v)

module _ {words blocks : ℕ} (t : Task) (hr : length t.job.registers ≡ 8) (hc : length t.copies ≡ 4) {x : Transaction} {l : List BodyCommand}
    (e : t.job.commands ≡ inside COMMIT ∷ l) (f : PassFit words blocks (inside COMMIT ∷ l) x) where
  -- outside again, no PAIR waiting
  after-commit : OutsideFit words blocks l []
  unfolding after after_body after_inside
  after-commit =
      let b : Body = transaction false [] [] f.known.body in
      record {
        known = in_body f.known b;
        opened = open_next b f.inside.opened;
        outside = refl;
        waiting = f.inside.pairs;
        faultless = f.faultless.others;
        pairs = no_entries 0 words;
        unloaded = no_unloaded;
      }

  commit-done : {m : Memory} {d : Deed} → MemoryFit m → (cs : List ℕ) → length cs ≡ 4
      → TurnFit words blocks t (turn m (done t t.job.registers [] cs) d)
  commit-done g cs h = done_fit t l t.job.registers [] cs (ap rest e) g hr h after-commit

  pub entries : EntriesFit 32 (32 + blocks) (gather t.copies 0 x.blocks)
  entries = gather-entries t.copies f.touched (transaction_fit {copies = t.copies} {s = between} f tt).most

  pub commit_fit : {m : Memory} → MemoryFit m → (nothing spent : Bool) → nothing? x.blocks ≡ nothing → spent? x.blocks ≡ spent
      → TurnFit words blocks t (commit_command_by nothing spent m t x)
  unfolding commit_command_by
  commit_fit g true s n q = commit-done g t.copies hc
  commit_fit g false true n q = ended_fit t hr hc g
  commit_fit g false false n q =
      stays_fit t hr hc (inside COMMIT ∷ l) e g f
      (record { others = l; commands = refl; not_spent = q; exchange = exchange-start (gather-some t.copies 0 x.blocks n) entries })

  -- in its exchange
  pub committed_fit : spent? x.blocks ≡ false → (v : Exchange) (o : Exchanged) → ExchangedFit 32 (32 + blocks) (gather t.copies 0 x.blocks) o
      → TurnFit words blocks t (committing_by t x v o)
  unfolding committing_by
  committed_fit q v (goes m y) h =
      stays_fit t hr hc (inside COMMIT ∷ l) e h.memory f (record { others = l; commands = refl; not_spent = q; exchange = h.exchange })
  committed_fit q v (ends m true) h = commit-done h (taken_back t.copies x.blocks) (taken_back_size t.copies x.blocks ∙ hc)
  committed_fit q v (ends m false) h = loses_fit t hr hc h f

-- EVERY INNER STEP
module _ {words blocks : ℕ} (most : blocks ≤ 16) {m : Memory} (g : MemoryFit m) (t : Task) (hr : length t.job.registers ≡ 8)
    (hc : length t.copies ≡ 4) {x : Transaction} where
  -- a command that stands only outside a transaction
  misplaced : {P : Type 0} {l : List BodyCommand} (f : PassFit words blocks l x) → f.known.body.inside ≡ false → P
  misplaced f e = absurd (true≢false (sym f.inside.inside ∙ e))

  inside_fit : (c : Inside) (l : List BodyCommand) → t.job.commands ≡ inside c ∷ l → PassFit words blocks (inside c ∷ l) x
      → TurnFit words blocks t (inside_tick m t x c)
  unfolding inside_tick
  inside_fit (access a) l e f = access_fit t hr hc most g a e f (touched_of x (block_of a)) refl
  inside_fit COMMIT l e f = commit_fit t hr hc e f g (nothing? x.blocks) (spent? x.blocks) refl refl

  command_fit : (l : List BodyCommand) → t.job.commands ≡ l → PassFit words blocks l x → TurnFit words blocks t (command_tick m t x l)
  unfolding command_tick
  command_fit [] e f = absurd (not-over f.inside f.faultless)
  command_fit (LOAD r v ∷ l) e f = goes-on_fit t hr hc l e g (length-replace t.job.registers r v ∙ hr) (pass_load f)
  command_fit (ADD r q ∷ l) e f = goes-on_fit t hr hc l e g (length-replace t.job.registers r _ ∙ hr) (pass_add f)
  command_fit (inside c ∷ l) e f = inside_fit c l e f
  command_fit (outside c ∷ l) e f = misplaced f (first-command f.inside (outside c) l f.faultless).place

  -- the pass, where the first command is known
  pass_at : {s : Inner} {l : List BodyCommand} → t.job.commands ≡ l → TransactionFit words blocks t.copies t.job.commands t.job.pairs x s
      → PassFit words blocks l x
  pass_at e f = subst (λ (z : List BodyCommand). PassFit words blocks z x) e (pass_of f)

  copying_fit : (a : Access) (n : ℕ) → TransactionFit words blocks t.copies t.job.commands t.job.pairs x (copying a n)
      → TurnFit words blocks t (transaction_tick 0 m t x (copying a n))
  unfolding transaction_tick
  copying_fit (PUT b o r) n f =
      let w = f.inner.at_work in copy_fit t hr hc most g b o r w.commands (pass_at w.commands f) f.inner.first n f.inner.most
  copying_fit (GET r b o) n f = absurd (false≢true f.inner.put)

  pub transaction-tick_fit : (p : ℕ) (s : Inner) → TransactionFit words blocks t.copies t.job.commands t.job.pairs x s
      → TurnFit words blocks t (transaction_tick p m t x s)
  unfolding transaction_tick
  transaction-tick_fit p between f = command_fit t.job.commands refl (pass_of f)
  transaction-tick_fit p (first a r) f =
      let w = f.inner.at_work in
      first-read_fit t hr hc most g a w.commands (pass_at w.commands f) f.inner.not_yet (read_tick m (bank (block_of a)) r)
  transaction-tick_fit p (copying a n) f = copying_fit a n f
  transaction-tick_fit p (again a v r) f =
      let w = f.inner.at_work in
      again_fit t hr hc most g a v w.commands (pass_at w.commands f) f.inner.again (read_tick m (bank (block_of a)) r)
  transaction-tick_fit p (committing y) f =
      let e = f.inner.commands in
      let d = pass_at e f in
      committed_fit t hr hc e d f.inner.not_spent y (exchange_tick p m y y.step) (exchange_fit p g f.inner.exchange (entries t hr hc e d))
