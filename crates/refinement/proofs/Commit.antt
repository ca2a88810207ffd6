-- COMMIT: nothing touched, spent, gathered; its exchange goes on, says yes, says no.
use Prim.Native.Nat.{ℕ, zero, suc, ◌/◌, ◌<◌, ◌≤◌}
use mathlib.Core.Path.{◌≡◌, refl, sym, ap, ◌∙◌}
use mathlib.Core.Logic.{◌≢◌}
use mathlib.Core.Bool.{Bool, true, false, false≢true}
use mathlib.Core.List.{List, [], ◌∷◌}
use native.Mathlib.Omega.{arith}
use lib.Dec.{eqb}
use lib.ListN.{length}
use borrow.Author.Tests.{eqb-false}
use Rattle.model.specs.Lists.{at}
use Rattle.model.specs.Command as C
use Rattle.model.specs.Exchange as X
use Rattle.model.specs.Job as J
use Rattle.model.specs.Transaction as T
use Rattle.model.proofs.Fit.Elements.{or_none, or_none_right}
use Rattle.model.proofs.Fit.Transaction.{touched?}
use Rattle.commands.specs.declared.BodyCommand.{BodyCommand}
use Rattle.state.specs.State.{Shared, Own, with_entries}
use Rattle.state.specs.Held.{memory_of, touched_in, blocks_of}
use Rattle.exchanges.specs.Places.{if, Noted, noted}
use Rattle.jobs.specs.Jobs.{job_at, spent, counted, after_done}
use Rattle.transactions.specs.Blocks.{slot_at, remembered_at, touched_blocks, gathering, gathered_all, taking_back}
use Rattle.transactions.specs.Commits.{exchange_of, commit_by, committed_by}
use Rattle.machine.specs.Flat.{closed}
use Rattle.exchanges.specs.declared.exchange.Exchanged.{Exchanged}
use Rattle.exchanges.specs.declared.exchange.Exchanged.TheVariants.{Goes, Finds, Ends}
use Rattle.jobs.specs.declared.Phase.TheVariants.{Idle}
use Rattle.jobs.specs.declared.Job.{Job}
use Rattle.refinement.proofs.View.{entries_of, transaction_of}
use Rattle.state.specs.Sized.{SharedSized, OwnSized}
use Rattle.refinement.proofs.Shape.{leaves, Refines}
use Rattle.refinement.proofs.Sized.{EntriesSized, entries_sized, copies-sized, entries-sized, counted-sized}
use Rattle.refinement.proofs.Counted.{counted-counts}
use Rattle.refinement.proofs.Entered.{no_pairs, none_unloaded}
use Rattle.refinement.proofs.Blocks.{at-blocks}
use Rattle.refinement.proofs.Gather.{taken-size, gathered_same, gathered_sized}
use Rattle.refinement.proofs.Done.{done_refines}
use Rattle.refinement.proofs.Exchange.{exchanged_of}
use Rattle.refinement.proofs.ExchangeKept.{loading, loading-sized}
use Rattle.refinement.proofs.Lost.{lost_refines}
use Rattle.refinement.proofs.Access.{inside}

-- what is known of the task's blocks and copy slots
pub record PassFits (t : Own) : Type 0 where
  pub value : (b k : ℕ) → b < 16 → touched_in t.blocks.touched b ≡ true → slot_at t b ≡ suc k → remembered_at t b < 4294967296
  pub copy : (k : ℕ) → at 0 t.copies k < 256
  pub most : T.touched_count (blocks_of t.blocks) ≤ 8

-- where no block is spent, a copied one is not at the last version
none-spent : (ts : List J.Touched) (b v k : ℕ) → T.spent? ts ≡ false → at J.untouched ts b ≡ J.copied v k → eqb (v / 256) 16777215 ≡ false
unfolding T.spent? at
none-spent [] b v k e q = absurd (false≢true (ap touched? q))
none-spent (u ∷ ts) zero v k e q = or_none (eqb (v / 256) 16777215) (T.spent? ts) (rw q at e)
none-spent (u ∷ ts) (suc b) v k e q = none-spent ts b v k (go u e) q
  where
    go : (u : J.Touched) → T.spent? (u ∷ ts) ≡ false → T.spent? ts ≡ false
    go J.untouched e = e
    go (J.remembered w) e = e
    go (J.copied w i) e = or_none_right (eqb (w / 256) 16777215) (T.spent? ts) e

quotient : (v : ℕ) → v < 4294967296 → v / 256 ≢ 16777215 → v / 256 < 16777215
quotient v h d = let z : v / 256 < 16777216 = omega arith in omega arith

module _ (program : List BodyCommand) (size : length program ≡ 512) (end : ℕ) (bound : end ≤ 512) (body : List C.BodyCommand)
    (t : Own) (j : Job) (i : J.Inner) (own : OwnSized t) (in_body : j.at < end) (begun : j.begin ≤ end)
    (few : (n : ℕ) → n < 4 → at 0 t.counts n < 4294967295) where
  abbrev z : J.Task
  z = inside program end body j t i

  abbrev x : J.Transaction
  x = transaction_of program end j t

  abbrev Goal : Shared → Noted Job → J.Turn → Type 0
  Goal m u v = Refines program end body m (closed end u.task u.next) v

  module _ (m : Shared) (shared : SharedSized m) (f : PassFits t) where
    version : T.spent? x.blocks ≡ false → (b k : ℕ) → b < 16 → touched_in t.blocks.touched b ≡ true → slot_at t b ≡ suc k
        → remembered_at t b / 256 < 16777215
    version e b k h i q =
        quotient (remembered_at t b) (f.value b k h i q)
        (eqb-false _ _ (none-spent x.blocks b (remembered_at t b) k e (at-blocks t.blocks b h ∙ rw (i, q))))

    gathered : EntriesSized (gathered_all t).entries
    gathered = gathered_sized t (touched_blocks t) (gathering 0 t.entries) (entries_sized own)

    abbrev commits : Bool → Bool → Noted Job
    commits a b =
        if a (noted (after_done j 0) t)
        (if b (noted (job_at Idle j.at 0) (counted (with_entries t (gathered_all t).entries) spent)) (exchange_of t j (gathered_all t)))

    commit-by : (a b : Bool) → T.spent? x.blocks ≡ b → Goal m (commits a b) (T.commit_command_by a b (memory_of m) z x)
    unfolding T.commit_command_by counted
    commit-by true b e =
        done_refines program size end bound body j in_body t 0 own _ _ m shared (few 0 (omega arith)) (none_unloaded _) []
        (sym (no_pairs t.entries))
    commit-by false true e =
        record {
          same = rw (
            no_pairs (gathered_all t).entries,
            counted-counts t own.counts J.spent (few 1 (omega arith)),
          );
          shared_sized = shared;
          own_sized = counted-sized (entries-sized own _ gathered) spent;
          shape = tt;
        }
    commit-by false false e =
        record {
          same =
              ap (λ (es : List X.Entry). leaves (memory_of m) (T.stays z x (J.committing (X.exchange_of es))))
              (sym (gathered_same t (version e) f.copy (entries_sized own) f.most));
          shared_sized = shared;
          own_sized = entries-sized own _ gathered;
          shape = record { in_body = omega arith; begun = begun };
        }

    pub commit-tick : Goal m (commit_by t j) (T.commit_command_by (T.nothing? x.blocks) (T.spent? x.blocks) (memory_of m) z x)
    unfolding commit_by
    commit-tick = commit-by (T.nothing? x.blocks) (T.spent? x.blocks) refl

  -- THE EXCHANGE OF COMMIT, which has left the shared memory m and those loaded words
  pub committed-by : (v : X.Exchange) (m : Shared) (l o : List ℕ) → SharedSized m → length l ≡ 8 → length o ≡ 8 → (c : Exchanged)
      → Goal m (committed_by (loading t l o) j c)
      (T.committing_by z x v (exchanged_of (memory_of m) (entries_of j.pairs (loading t l o).entries) j.value c))
  unfolding T.committing_by committed_by
  committed-by v m l o s a b (Goes y) =
      record { same = refl; shared_sized = s; own_sized = loading-sized own l o a b; shape = record { in_body = omega arith; begun = begun } }
  committed-by v m l o s a b (Finds y) =
      record { same = refl; shared_sized = s; own_sized = loading-sized own l o a b; shape = record { in_body = omega arith; begun = begun } }
  committed-by v m l o s a b (Ends true) =
      done_refines program size end bound body j in_body (taking_back (loading t l o)) 0
      (copies-sized (loading-sized own l o a b) _ (taken-size t.copies x.blocks ∙ own.copies)) _ _ m s (few 0 (omega arith))
      (none_unloaded _) [] (sym (no_pairs (loading t l o).entries))
  committed-by v m l o s a b (Ends false) =
      lost_refines program end body m (loading t l o) j z.job s (loading-sized own l o a b) begun (few 2 (omega arith))
