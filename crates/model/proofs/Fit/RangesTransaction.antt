-- Transactions keep the ranges.
use Prim.Native.Nat.{ℕ, suc, ◌<◌}
use mathlib.Core.Path.{◌≡◌, refl, sym, subst}
use mathlib.Core.Bool.{Bool, true, false}
use mathlib.Core.List.{List, [], ◌∷◌}
use native.Mathlib.Omega.{arith}
use lib.Dec.{eqb}
use lib.ListN.{length}
use borrow.Author.Tests.{eqb-false}
use Rattle.model.specs.Lists.{at, replace}
use Rattle.model.specs.Command.{Access, GET, PUT, Inside, access, COMMIT, BodyCommand, LOAD, ADD, outside, inside}
use Rattle.model.specs.Word.{Memory, stored, loading, Read, reads, gives, read_tick, set_stored}
use Rattle.model.specs.Exchange.{Entry, entry, Exchanged, goes, ends, exchange_of, exchange_tick, Exchange}
use Rattle.model.specs.Job.{Touched, untouched, remembered, copied, Transaction, Inner, between, first, copying}
use Rattle.model.specs.Job.{again, committing, Phase, lost, Task, Turn, turn, loses_attempt, rest, done, done_by, in_phase, Deed}
use Rattle.model.specs.Transaction.{bank, bank_value, version_of, store_of, block_of, remembered_of, touched_of, touch}
use Rattle.model.specs.Transaction.{within, stays, goes_on, restarted, loaded, added, first_read, copy_by, copy_tick}
use Rattle.model.specs.Transaction.{access_tick, check_by, again_read, nothing?, spent?, gather, taken_back, command_tick}
use Rattle.model.specs.Transaction.{transaction_tick, fresh_transaction, commit_command_by, committing_by, inside_tick}
use Rattle.model.proofs.Lists.{at_default}
use Rattle.model.proofs.Fit.Elements.{or_none, or_none_right, replace-all, first-every}
use Rattle.model.proofs.Fit.Exchange.{entry_of}
use Rattle.model.proofs.Fit.Transaction.{TransactionFit}
use Rattle.model.proofs.Fit.Ranges.{Value, MemoryRange, ReadRange, EntryRange, TouchedRange}
use Rattle.model.proofs.Fit.Ranges.{CommandsRange, InnerRange, TransactionRange, PhaseRange, TaskRange, counting-range}
use Rattle.model.proofs.Fit.RangesExchange.{stored-range, read-range, ExchangedRange, exchange-range}

pub record TurnRange (u : Turn) : Type 0 where
  pub memory : MemoryRange u.memory
  pub task : TaskRange u.task

pub no-entry : EntryRange (entry 0 0 0)
no-entry = record { old = omega arith; new = omega arith; init = record { value = omega arith; count = omega arith; task = omega arith } }

pub no_entry-range : (i : ℕ) → EntryRange (entry_of [] i)
unfolding at
no_entry-range i = no-entry

rest-range : (l : List BodyCommand) → CommandsRange l → CommandsRange (rest l)
rest-range [] h = tt
rest-range (c ∷ l) h = h.others

remembered-range : (s : Touched) → TouchedRange s → Value (remembered_of s)
remembered-range untouched h = omega arith
remembered-range (remembered v) h = h
remembered-range (copied v k) h = h

-- WHAT COMMIT GATHERS AND TAKES BACK
-- a version below the last one may rise
new-bank : (v s : ℕ) → Value v → s < 256 → eqb (version_of v) 16777215 ≡ false → Value (bank_value (suc (version_of v)) s)
new-bank v s hv hs e = let d = eqb-false (version_of v) 16777215 e in omega arith

module _ (copies : List ℕ) (hc : (k : ℕ) → at 0 copies k < 256) where
  gather-range : (b : ℕ) (ts : List Touched) → ((n : ℕ) → TouchedRange (at untouched ts n)) → spent? ts ≡ false → (i : ℕ)
      → EntryRange (entry_of (gather copies b ts) i)
  unfolding gather spent? at
  gather-range b [] h e = no_entry-range
  gather-range b (t ∷ ts) h e = go t (h 0) e (gather-range (suc b) ts (λ n. h (suc n)))
    where
      go : (t : Touched) → TouchedRange t → spent? (t ∷ ts) ≡ false
          → (spent? ts ≡ false → (i : ℕ) → EntryRange (entry_of (gather copies (suc b) ts) i)) → (i : ℕ)
          → EntryRange (entry_of (gather copies b (t ∷ ts)) i)
      go untouched r e on = on e
      go (remembered v) r e on =
          first-every (entry 0 0 0) EntryRange (entry (bank b) v v) (gather copies (suc b) ts) (record { old = r; new = r; init = no-entry.init })
          (on e)
      go (copied v k) r e on =
          first-every (entry 0 0 0) EntryRange (entry (bank b) v (bank_value (suc (version_of v)) (at 0 copies k))) (gather copies (suc b) ts)
          (record { old = r; new = new-bank v (at 0 copies k) r (hc k) (or_none (eqb (version_of v) 16777215) (spent? ts) e); init = no-entry.init })
          (on (or_none_right (eqb (version_of v) 16777215) (spent? ts) e))

taken_back_range : (copies : List ℕ) (ts : List Touched) → ((k : ℕ) → at 0 copies k < 256) → (k : ℕ) → at 0 (taken_back copies ts) k < 256
unfolding taken_back
taken_back_range copies [] h = h
taken_back_range copies (untouched ∷ ts) h = taken_back_range copies ts h
taken_back_range copies (remembered v ∷ ts) h = taken_back_range copies ts h
taken_back_range copies (copied v k ∷ ts) h =
    taken_back_range (replace copies k (store_of v)) ts (replace-all 0 (λ (n : ℕ). n < 256) copies k (store_of v) (omega arith) h)

-- WHAT A STATEMENT LEAVES OF THE TASK
module _ {t : Task} (f : TaskRange t) where
  pub done-range : (rs : List ℕ) (ps : List Entry) (cs : List ℕ) → ((r : ℕ) → Value (at 0 rs r)) → ((i : ℕ) → EntryRange (entry_of ps i))
      → ((k : ℕ) → at 0 cs k < 256) → TaskRange (done t rs ps cs)
  unfolding done_by
  done-range rs ps cs hr hp hc = go (rest t.job.commands) (rest-range t.job.commands f.commands)
    where
      go : (l : List BodyCommand) → CommandsRange l → TaskRange (done_by l t rs ps cs)
      go [] h = record { body = f.body; commands = tt; register = hr; pair = hp; copy = hc; phase = tt }
      go (c ∷ l) h = record { body = f.body; commands = h; register = hr; pair = hp; copy = hc; phase = tt }

  pub in_phase-range : (p : Phase) → PhaseRange p → TaskRange (in_phase t p)
  in_phase-range p h = record { body = f.body; commands = f.commands; register = f.register; pair = f.pair; copy = f.copy; phase = h }

  pub within-range : (l : List BodyCommand) (rs : List ℕ) (x : Transaction) (s : Inner) → CommandsRange l → ((r : ℕ) → Value (at 0 rs r))
      → TransactionRange x s → TaskRange (within t l rs x s)
  within-range l rs x s hl hr h = record { body = f.body; commands = hl; register = hr; pair = no_entry-range; copy = f.copy; phase = h }

  pub loaded-range : (r v : ℕ) → Value v → (q : ℕ) → Value (at 0 (loaded t.job.registers r v) q)
  loaded-range r v h = replace-all 0 Value t.job.registers r v h f.register

  pub added-range : (r q : ℕ) (i : ℕ) → Value (at 0 (added t.job.registers r q) i)
  added-range r q = replace-all 0 Value t.job.registers r _ (omega arith) f.register

-- TRANSACTIONS
-- nothing touched
pub fresh-range : (kept : List ℕ) (l : List BodyCommand) → ((r : ℕ) → Value (at 0 kept r)) → CommandsRange l
    → TransactionRange (fresh_transaction kept l) between
fresh-range kept l k h = record { kept = k; commands = h; block = λ b. subst TouchedRange (sym (at_default untouched 16 b)) tt; inner = tt }

module _ {m : Memory} (g : MemoryRange m) {t : Task} (f : TaskRange t) {x : Transaction} {s : Inner} (h : TransactionRange x s) where
  -- with another inner step, and with a block touched
  inner-range : (s' : Inner) → InnerRange s' → TransactionRange x s'
  inner-range s' i = record { kept = h.kept; commands = h.commands; block = h.block; inner = i }

  touch-range : (b : ℕ) (u : Touched) (n : ℕ) → TouchedRange u → TransactionRange (touch x b u n) between
  touch-range b u n r =
      record { kept = h.kept; commands = h.commands; block = replace-all untouched TouchedRange x.blocks b u r h.block; inner = tt }

  stays-range : {n : Memory} {d : Deed} (s' : Inner) → MemoryRange n → InnerRange s' → TurnRange (turn n (stays t x s') d)
  stays-range s' k i =
      record { memory = k; task = within-range f t.job.commands t.job.registers x s' f.commands f.register (inner-range s' i) }

  goes-on-range : {n : Memory} {d : Deed} (rs : List ℕ) → MemoryRange n → ((r : ℕ) → Value (at 0 rs r)) → TurnRange (turn n (goes_on t rs x) d)
  goes-on-range rs k r = record {
    memory = k;
    task = within-range f (rest t.job.commands) rs x between (rest-range t.job.commands f.commands) r (inner-range between tt);
  }

  loses_range : {n : Memory} → MemoryRange n → TurnRange (loses_attempt n (restarted t x))
  loses_range k = record {
    memory = k;
    task =
        counting-range lost
        (within-range f x.commands x.kept (fresh_transaction x.kept x.commands) between h.commands h.kept
        (fresh-range x.kept x.commands h.kept h.commands));
  }

  first-read-range : (a : Access) (o : Read) → ReadRange o → TurnRange (first_read m t x a o)
  unfolding first_read
  first-read-range a (reads r) k = stays-range (first a r) g k
  first-read-range a (gives v) k = record {
    memory = g;
    task =
        within-range f t.job.commands t.job.registers _ between f.commands f.register
        (touch-range (block_of a) (remembered v) x.used k);
  }

  copy-range : (a : Access) (n : ℕ) → TurnRange (copy_tick m t x a n)
  unfolding copy_tick copy_by
  copy-range a n = go (eqb (suc n) 8)
    where
      d : ℕ
      d = at 0 t.copies x.used

      v : ℕ
      v = stored m.stores (store_of (remembered_of (touched_of x (block_of a)))) n

      k : MemoryRange (set_stored m d n v)
      k = stored-range g d n v (g.store (store_of (remembered_of (touched_of x (block_of a)))) n)

      go : (b : Bool) → TurnRange (copy_by b (set_stored m d n v) t x a n)
      go true = stays-range (again a 0 loading) k (record { value = omega arith; reading = tt })
      go false = stays-range (copying a (suc n)) k tt

  access-range : (a : Access) (u : Touched) → TurnRange (access_tick m t x a u)
  unfolding access_tick
  access-range (GET r b o) untouched = first-read-range (GET r b o) (read_tick m (bank b) loading) (read-range g (bank b) loading tt)
  access-range (GET r b o) (remembered v) =
      stays-range (again (GET r b o) (stored m.stores (store_of v) o) loading) g (record { value = g.store (store_of v) o; reading = tt })
  access-range (GET r b o) (copied v k) =
      stays-range (again (GET r b o) (stored m.stores (at 0 t.copies k) o) loading) g
      (record { value = g.store (at 0 t.copies k) o; reading = tt })
  access-range (PUT b o r) untouched = first-read-range (PUT b o r) (read_tick m (bank b) loading) (read-range g (bank b) loading tt)
  access-range (PUT b o r) (remembered v) = copy-range (PUT b o r) 0
  access-range (PUT b o r) (copied v k) =
      goes-on-range t.job.registers (stored-range g (at 0 t.copies k) o (at 0 t.job.registers r) (f.register r)) f.register

  check-range : (b : Bool) (a : Access) (v : ℕ) → Value v → TurnRange (check_by b m t x a v)
  unfolding check_by
  check-range true (GET r b o) v k = goes-on-range (loaded t.job.registers r v) g (loaded-range f r v k)
  check-range true (PUT b o r) v k =
      let u : Touched = copied (remembered_of (touched_of x b)) x.used in
      record {
        memory = g;
        task =
            within-range f t.job.commands t.job.registers _ between f.commands f.register
            (touch-range b u (suc x.used) (remembered-range (touched_of x b) (h.block b)));
      }
  check-range false a v k = loses_range g

  again-range : (a : Access) (v : ℕ) → Value v → (o : Read) → ReadRange o → TurnRange (again_read m t x a v o)
  unfolding again_read
  again-range a v k (reads r) i = stays-range (again a v r) g (record { value = k; reading = i })
  again-range a v k (gives w) i = check-range (eqb (version_of w) (version_of (remembered_of (touched_of x (block_of a))))) a v k

  commit-range : (nothing spent : Bool) → spent? x.blocks ≡ spent → TurnRange (commit_command_by nothing spent m t x)
  unfolding commit_command_by
  commit-range true spent e = record { memory = g; task = done-range f t.job.registers [] t.copies f.register no_entry-range f.copy }
  commit-range false true e =
      record { memory = g; task = record { body = f.body; commands = tt; register = f.register; pair = no_entry-range; copy = f.copy; phase = tt } }
  commit-range false false e =
      stays-range (committing (exchange_of (gather t.copies 0 x.blocks))) g
      (record { entry = gather-range t.copies f.copy 0 x.blocks h.block e; step = tt })

  committed-range : (v : Exchange) (o : Exchanged) → ExchangedRange o → TurnRange (committing_by t x v o)
  unfolding committing_by
  committed-range v (goes n e) k = stays-range (committing e) k.memory k.exchange
  committed-range v (ends n true) k = record {
    memory = k;
    task =
        done-range f t.job.registers [] (taken_back t.copies x.blocks) f.register no_entry-range
        (taken_back_range t.copies x.blocks f.copy);
  }
  committed-range v (ends n false) k = loses_range k

  same-range : {d : Deed} → TurnRange (turn m t d)
  same-range = record { memory = g; task = f }

  inside-range : (c : Inside) → TurnRange (inside_tick m t x c)
  unfolding inside_tick
  inside-range (access a) = access-range a (touched_of x (block_of a))
  inside-range COMMIT = commit-range (nothing? x.blocks) (spent? x.blocks) refl

  command-range : (l : List BodyCommand) → CommandsRange l → TurnRange (command_tick m t x l)
  unfolding command_tick
  command-range [] k = same-range
  command-range (LOAD r v ∷ l) k = goes-on-range (loaded t.job.registers r v) g (loaded-range f r v k.command)
  command-range (ADD r q ∷ l) k = goes-on-range (added t.job.registers r q) g (added-range f r q)
  command-range (inside c ∷ l) k = inside-range c
  command-range (outside c ∷ l) k = same-range

pub transaction-range : {words blocks : ℕ} {copies : List ℕ} {l : List BodyCommand} {ps : List Entry} (p : ℕ) → p < 8 → {m : Memory} → MemoryRange m
    → {t : Task} → TaskRange t → {x : Transaction} (s : Inner) → TransactionFit words blocks copies l ps x s → TransactionRange x s
    → TurnRange (transaction_tick p m t x s)
unfolding transaction_tick
transaction-range p hp {m} g {t} f between k h = command-range g f h t.job.commands f.commands
transaction-range p hp {m} g f (first a r) k h =
    first-read-range g f h a (read_tick m (bank (block_of a)) r) (read-range g (bank (block_of a)) r h.inner)
transaction-range p hp {m} g f (copying a n) k h = copy-range g f h a n
transaction-range p hp {m} g f (again a v r) k h =
    again-range g f h a v h.inner.value (read_tick m (bank (block_of a)) r) (read-range g (bank (block_of a)) r h.inner.reading)
transaction-range p hp {m} g f (committing e) k h =
    let x = k.inner.exchange in
    committed-range g f h e (exchange_tick p m e e.step)
    (exchange-range p hp g e h.inner.entry (length e.entries) x.entries.most e.step x.step h.inner.step)
