-- Every statement: its task's count of lost attempts rises just where it loses one, its transaction restarts just there, and there is a cause
-- just there.
use Prim.Native.Nat.{ℕ, suc, ◌+◌, ◌<◌, ◌≤◌}
use mathlib.Core.Path.{◌≡◌, refl, sym, ◌∙◌, ap}
use mathlib.Core.Bool.{Bool, true, false, not, ◌&&◌, true≢false}
use mathlib.Core.List.{List, [], ◌∷◌}
use native.Mathlib.Omega.{arith}
use lib.Dec.{eqb}
use lib.ListN.{length}
use Rattle.model.specs.Lists.{at, replace}
use Rattle.model.specs.Command.{Access, GET, PUT, access, COMMIT, BodyCommand, LOAD, ADD, outside, inside}
use Rattle.model.specs.Command.{READ, PAIR, SWAP, BEGIN}
use Rattle.model.specs.Word.{Memory, stored, set_stored, loading, Read, reads, gives, read_tick}
use Rattle.model.specs.Exchange.{Entry, Exchange, Exchanged, goes, ends, exchange_tick, commit_said_yes}
use Rattle.model.specs.Job.{Touched, untouched, remembered, copied, Transaction, Inner, between, first, copying, again, committing}
use Rattle.model.specs.Job.{Phase, idle, plain, reading, exchanging, transacting, Task, rest, done_by, Turn, turn, loses_attempt}
use Rattle.model.specs.Job.{Deed, nothing_done}
use Rattle.model.specs.Transaction.{bank, block_of, version_of, store_of, remembered_of, touched_of, touch, within, restarted}
use Rattle.model.specs.Transaction.{first_read, copy_by, copy_tick, access_tick, check_by, again_read, nothing?, spent?, gather}
use Rattle.model.specs.Transaction.{commit_command_by, committed_if, committing_by, inside_tick, command_tick, transaction_tick}
use Rattle.model.specs.Machine.{read_by, swap_by, swap_committed_if, outside_tick, plain_tick, statement}
use Rattle.model.specs.Rates.{one_if}
use Rattle.model.specs.LostAttempts.{touched_some, touched_none}
use Rattle.model.proofs.Lists.{test?, replace-same}
use Rattle.model.proofs.Fit.Exchange.{ExchangeFit}
use Rattle.model.proofs.Fit.Transaction.{touched?, AgainFit, TransactionFit}
use Rattle.model.proofs.Fit.Machine.{PhaseFit}
use Rattle.model.proofs.Fit.Pass.{PassFit, pass_of}
use Rattle.model.proofs.Fit.TransactionTick.{at-work}
use Rattle.model.proofs.History.Notes.{lost?}
use Rattle.model.proofs.Transactions.Gather.{nothing-touched}

-- THE CAUSES, by what a statement finds: another version than the remembered one, a no
abbrev pub stale_by : Transaction → Access → Read → Bool
stale_by x a (reads r) = false
stale_by x a (gives w) = not (eqb (version_of w) (version_of (remembered_of (touched_of x (block_of a)))))

abbrev pub rejected_by : Exchanged → Bool
rejected_by (goes m e) = false
rejected_by (ends m yes?) = not yes?

abbrev pub inner_cause : ℕ → Memory → Transaction → Inner → Bool
inner_cause p m x between = false
inner_cause p m x (first a r) = false
inner_cause p m x (copying a n) = false
inner_cause p m x (again a v r) = stale_by x a (read_tick m (bank (block_of a)) r)
inner_cause p m x (committing e) = rejected_by (exchange_tick p m e e.step)

abbrev pub cause_in : ℕ → Memory → Phase → Bool
cause_in p m idle = false
cause_in p m plain = false
cause_in p m (reading r w s) = false
cause_in p m (exchanging r x) = false
cause_in p m (transacting x s) = inner_cause p m x s

-- A STATEMENT of task t, with a cause or without, in a transaction that has touched a block or not
pub record Loses (cause some : Bool) (t : Task) (v : Turn) : Type 0 where
  pub counted : v.task.counts.lost ≡ t.counts.lost + one_if (lost? v.did)
  pub restarts : (some && touched_none v.task.job.phase) ≡ lost? v.did
  pub caused : cause ≡ lost? v.did

-- one that loses none
none-lost : {some : Bool} {t : Task} {v : Turn} → lost? v.did ≡ false → v.task.counts.lost ≡ t.counts.lost
    → (some && touched_none v.task.job.phase) ≡ false → Loses false some t v
none-lost d e r = record { counted = rw (d, e) (omega arith); restarts = r ∙ sym d; caused = sym d }

pub and_false : (b : Bool) → (b && false) ≡ false
and_false true = refl
and_false false = refl

pub not_and : (b : Bool) → (not b && b) ≡ false
not_and true = refl
not_and false = refl

-- a command is done: the count stays, and the task is in no transaction
done-lost : (l : List BodyCommand) (t : Task) (rs : List ℕ) (ps : List Entry) (cs : List ℕ) → (done_by l t rs ps cs).counts.lost ≡ t.counts.lost
unfolding done_by
done-lost [] t rs ps cs = refl
done-lost (c ∷ l) t rs ps cs = refl

done-outside : (l : List BodyCommand) (t : Task) (rs : List ℕ) (ps : List Entry) (cs : List ℕ) → touched_none (done_by l t rs ps cs).job.phase ≡ false
unfolding done_by
done-outside [] t rs ps cs = refl
done-outside (c ∷ l) t rs ps cs = refl

-- a block touched
some-touched : (ts : List Touched) (n : ℕ) → touched? (at untouched ts n) ≡ true → nothing? ts ≡ false
some-touched ts n e = test? (nothing? ts) (λ h. absurd (true≢false (sym e ∙ ap touched? (nothing-touched ts h n)))) (λ h. h)

gather_none : (copies : List ℕ) (b : ℕ) (ts : List Touched) → nothing? ts ≡ true → gather copies b ts ≡ []
unfolding gather nothing?
gather_none copies b [] h = refl
gather_none copies b (untouched ∷ ts) h = gather_none copies (suc b) ts h
gather_none copies b (remembered v ∷ ts) h = absurd (true≢false (sym h))
gather_none copies b (copied v k ∷ ts) h = absurd (true≢false (sym h))

-- IN A TRANSACTION
module _ (t : Task) (x : Transaction) where
  abbrev Within : Bool → Turn → Type 0
  Within cause v = Loses cause (not (nothing? x.blocks)) t v

  -- what it had touched stays
  kept : {m : Memory} {d : Deed} {l : List BodyCommand} {rs : List ℕ} {s : Inner} → lost? d ≡ false → Within false (turn m (within t l rs x s) d)
  kept d = none-lost d refl (not_and (nothing? x.blocks))

  -- one block more is touched
  touches : {m : Memory} {l : List BodyCommand} {rs : List ℕ} {s : Inner} (b : ℕ) (u : Touched) (n : ℕ) → touched? u ≡ true
      → b < length x.blocks → Within false (turn m (within t l rs (touch x b u n) s) nothing_done)
  touches b u n e lt =
      none-lost refl refl
      (ap (λ (z : Bool). not (nothing? x.blocks) && z)
      (some-touched (replace x.blocks b u) b (ap touched? (replace-same untouched x.blocks b u lt) ∙ e))
      ∙ and_false (not (nothing? x.blocks)))

  -- the attempt is lost
  loses : {m : Memory} → nothing? x.blocks ≡ false → Within true (loses_attempt m (restarted t x))
  unfolding nothing?
  loses e = record { counted = omega arith; restarts = rw e refl; caused = refl }

  -- the transaction is over
  ends-none : {m : Memory} {d : Deed} (cs : List ℕ) → lost? d ≡ false
      → Within false (turn m (done_by (rest t.job.commands) t t.job.registers [] cs) d)
  ends-none cs d =
      none-lost d (done-lost (rest t.job.commands) t t.job.registers [] cs)
      (ap (λ (z : Bool). not (nothing? x.blocks) && z) (done-outside (rest t.job.commands) t t.job.registers [] cs)
      ∙ and_false (not (nothing? x.blocks)))

  module _ (m : Memory) where
    first_loses : (a : Access) → block_of a < length x.blocks → (o : Read) → Within false (first_read m t x a o)
    unfolding first_read
    first_loses a lt (reads r) = kept refl
    first_loses a lt (gives v) = touches (block_of a) (remembered v) x.used refl lt

    copied_loses : (b : Bool) (n : Memory) (a : Access) (i : ℕ) → Within false (copy_by b n t x a i)
    unfolding copy_by
    copied_loses true n a i = kept refl
    copied_loses false n a i = kept refl

    copy_loses : (a : Access) (n : ℕ) → Within false (copy_tick m t x a n)
    unfolding copy_tick
    copy_loses a n =
        let v : ℕ = stored m.stores (store_of (remembered_of (touched_of x (block_of a)))) n in
        copied_loses (eqb (suc n) 8) (set_stored m (at 0 t.copies x.used) n v) a n

    access_loses : (a : Access) → block_of a < length x.blocks → (b : Touched) → Within false (access_tick m t x a b)
    unfolding access_tick
    access_loses a lt untouched = first_loses a lt (read_tick m (bank (block_of a)) loading)
    access_loses (GET r b o) lt (remembered v) = kept refl
    access_loses (GET r b o) lt (copied v k) = kept refl
    access_loses (PUT b o r) lt (remembered v) = copy_loses (PUT b o r) 0
    access_loses (PUT b o r) lt (copied v k) = kept refl

    check_loses : (b : Bool) (a : Access) (v : ℕ) → touched? (touched_of x (block_of a)) ≡ true → block_of a < length x.blocks
        → Within (not b) (check_by b m t x a v)
    unfolding check_by
    check_loses true (GET r b o) v e lt = kept refl
    check_loses true (PUT b o r) v e lt = touches b (copied (remembered_of (touched_of x b)) x.used) (suc x.used) refl lt
    check_loses false a v e lt = loses (some-touched x.blocks (block_of a) e)

    again_loses : (a : Access) (v : ℕ) → touched? (touched_of x (block_of a)) ≡ true → block_of a < length x.blocks → (o : Read)
        → Within (stale_by x a o) (again_read m t x a v o)
    unfolding again_read
    again_loses a v e lt (reads r) = kept refl
    again_loses a v e lt (gives w) = check_loses (eqb (version_of w) (version_of (remembered_of (touched_of x (block_of a))))) a v e lt

    commit_loses : (n s : Bool) → Within false (commit_command_by n s m t x)
    unfolding commit_command_by
    commit_loses true s = ends-none t.copies refl
    commit_loses false true = none-lost refl refl (and_false (not (nothing? x.blocks)))
    commit_loses false false = kept refl

    committing_loses : nothing? x.blocks ≡ false → (e : Exchange) (o : Exchanged) → Within (rejected_by o) (committing_by t x e o)
    unfolding committing_by
    committing_loses h e (goes n y) = kept (committed-none (commit_said_yes e y))
      where
        committed-none : (b : Bool) → lost? (committed_if b) ≡ false
        committed-none true = refl
        committed-none false = refl
    committing_loses h e (ends n true) = ends-none _ refl
    committing_loses h e (ends n false) = loses h

-- the block at work in the second reading is touched
again-touched : (x : Transaction) (a : Access) → AgainFit a x → touched? (touched_of x (block_of a)) ≡ true
again-touched x (GET r b o) h = h
again-touched x (PUT b o r) h = ap touched? h.read

module _ {words blocks : ℕ} (most : blocks ≤ 16) (p : ℕ) (m : Memory) (t : Task) {x : Transaction} where
  -- the blocks that the commands name are among the sixteen
  below : {l : List BodyCommand} {b : ℕ} → PassFit words blocks l x → b < blocks → b < length x.blocks
  below f h = omega (arith, f.touched.size)

  command_loses : t.job.phase ≡ transacting x between → (l : List BodyCommand) → PassFit words blocks l x
      → Loses false (not (nothing? x.blocks)) t (command_tick m t x l)
  unfolding command_tick inside_tick
  command_loses e [] f = none-lost refl refl (rw e (not_and (nothing? x.blocks)))
  command_loses e (LOAD r v ∷ l) f = kept t x refl
  command_loses e (ADD r q ∷ l) f = kept t x refl
  command_loses e (inside (access a) ∷ l) f = access_loses t x m a (below f (at-work a f).block) (touched_of x (block_of a))
  command_loses e (inside COMMIT ∷ l) f = commit_loses t x m (nothing? x.blocks) (spent? x.blocks)
  command_loses e (outside c ∷ l) f = none-lost refl refl (rw e (not_and (nothing? x.blocks)))

  inner_loses : (s : Inner) → t.job.phase ≡ transacting x s
      → TransactionFit words blocks t.copies t.job.commands t.job.pairs x s
      → Loses (inner_cause p m x s) (not (nothing? x.blocks)) t (transaction_tick p m t x s)
  unfolding transaction_tick
  inner_loses between e f = command_loses e t.job.commands (pass_of f)
  inner_loses (first a r) e f = first_loses t x m a (below (pass_of f) f.inner.at_work.block) (read_tick m (bank (block_of a)) r)
  inner_loses (copying a n) e f = copy_loses t x m a n
  inner_loses (again a v r) e f =
      again_loses t x m a v (again-touched x a f.inner.again) (below (pass_of f) f.inner.at_work.block) (read_tick m (bank (block_of a)) r)
  inner_loses (committing y) e f =
      committing_loses t x m (gathered x.blocks f.inner.exchange) y (exchange_tick p m y y.step)
    where
      gathered : (ts : List Touched) → ExchangeFit 32 (32 + blocks) (gather t.copies 0 ts) y → nothing? ts ≡ false
      gathered ts g = test? (nothing? ts)
          (λ h. absurd (some-entry (rw (gather_none t.copies 0 ts h) at g.same.size) g.some))
          (λ h. h)
        where
          some-entry : length y.entries ≡ 0 → 1 ≤ length y.entries → ⊥
          some-entry z h = omega arith

-- OUTSIDE A TRANSACTION
module _ (p : ℕ) (m : Memory) (t : Task) where
  read_loses : (r w : ℕ) (o : Read) → Loses false false t (read_by m t r w o)
  unfolding read_by
  read_loses r w (reads s) = none-lost refl refl refl
  read_loses r w (gives v) = none-lost refl (done-lost (rest t.job.commands) t _ _ _) refl

  swap-none : (b : Bool) → lost? (swap_committed_if b) ≡ false
  swap-none true = refl
  swap-none false = refl

  swap_loses : (r : ℕ) (x : Exchange) (o : Exchanged) → Loses false false t (swap_by t r x o)
  unfolding swap_by
  swap_loses r x (goes n y) = none-lost (swap-none (commit_said_yes x y)) refl refl
  swap_loses r x (ends n yes?) = none-lost refl (done-lost (rest t.job.commands) t _ _ _) refl

  plain_loses : (l : List BodyCommand) → Loses false false t (plain_tick p m t l)
  unfolding plain_tick outside_tick
  plain_loses [] = none-lost refl refl refl
  plain_loses (LOAD r v ∷ l) = none-lost refl (done-lost (rest t.job.commands) t _ _ _) refl
  plain_loses (ADD r q ∷ l) = none-lost refl (done-lost (rest t.job.commands) t _ _ _) refl
  plain_loses (outside (READ r w) ∷ l) = none-lost refl ((read_loses r w (read_tick m w loading)).counted ∙ omega arith) refl
  plain_loses (outside (PAIR w o n) ∷ l) = none-lost refl (done-lost (rest t.job.commands) t _ _ _) refl
  plain_loses (outside (SWAP r) ∷ l) = none-lost refl refl refl
  plain_loses (outside BEGIN ∷ l) = none-lost refl refl refl
  plain_loses (inside c ∷ l) = none-lost refl refl refl

-- EVERY STATEMENT
pub statement_loses : (words blocks : ℕ) → blocks ≤ 16 → (p : ℕ) (m : Memory) (t : Task) (f : Phase) → t.job.phase ≡ f
    → PhaseFit words blocks t.copies t.job.commands t.job.pairs f → Loses (cause_in p m f) (touched_some f) t (statement p m t f)
unfolding statement
statement_loses words blocks most p m t idle e h = none-lost refl refl refl
statement_loses words blocks most p m t plain e h = plain_loses p m t t.job.commands
statement_loses words blocks most p m t (reading r w s) e h = read_loses p m t r w (read_tick m w s)
statement_loses words blocks most p m t (exchanging r x) e h = swap_loses p m t r x (exchange_tick p m x x.step)
statement_loses words blocks most p m t (transacting x s) e h = inner_loses {words = words} most p m t s e h
