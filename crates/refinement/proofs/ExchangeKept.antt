-- What every step of an exchange keeps: the sizes, and of the task's record all but what it has loaded.
use Prim.Native.Nat.{ℕ}
use mathlib.Core.Path.{◌≡◌, refl, ◌∙◌}
use mathlib.Core.Bool.{Bool, true, false}
use mathlib.Core.List.{List}
use lib.Dec.{eqb}
use lib.ListN.{length}
use Rattle.model.specs.Lists.{at}
use Rattle.model.proofs.Lists.{length-replace}
use Rattle.state.specs.State.{Shared, set_cell, set_status, set_save, Entries, Own, with_entries, set_overlapped}
use Rattle.exchanges.specs.Places.{if, next_of, went, Noted, noted, Left}
use Rattle.exchanges.specs.Reading.{owned}
use Rattle.state.specs.Packed.{value_of}
use Rattle.exchanges.specs.Exchange.{found, after_start, after_test, after_load, after_look, after_fetch, after_save, after_fail, marked, after_mark}
use Rattle.exchanges.specs.Exchange.{installed_at, after_install, cleaning, after_commit, as_new, cleaned, after_clean, after_clean_mark, after_exchange}
use Rattle.exchanges.specs.declared.exchange.Step.{Step}
use Rattle.exchanges.specs.declared.exchange.Step.TheVariants.{Start, Test, Load, Look, Fetch, Save, Fail, Mark, Install, Commit, Clean, CleanMark}
use Rattle.exchanges.specs.declared.exchange.Exchanged.{Exchanged}
use Rattle.exchanges.specs.declared.exchange.Exchanged.TheVariants.{Goes}
use Rattle.state.specs.Sized.{SharedSized, OwnSized}
use Rattle.refinement.proofs.Sized.{entries-sized}

-- the task with other words loaded
abbrev pub loaded_in : Entries → List ℕ → List ℕ → Entries
loaded_in e l o = record { targets = e.targets; olds = e.olds; news = e.news; inits = l; overlapped = o }

abbrev pub loading : Own → List ℕ → List ℕ → Own
loading t l o = with_entries t (loaded_in t.entries l o)

pub record ExchangeKept (t : Own) (x : Left Exchanged) : Type 0 where
  pub shared : SharedSized x.memory
  pub inits : length x.task.entries.inits ≡ 8
  pub overlapped : length x.task.entries.overlapped ≡ 8
  pub same : loading t x.task.entries.inits x.task.entries.overlapped ≡ x.task

-- sizes of the shared memory
module _ (m : Shared) (s : SharedSized m) where
  pub cell-sized : (c w : ℕ) → SharedSized (set_cell m c w)
  cell-sized c w = record { cells = length-replace m.cells c w ∙ s.cells; status = s.status; saves = s.saves; stores = s.stores }

  pub status-sized : (p v : ℕ) → SharedSized (set_status m p v)
  status-sized p v = record { cells = s.cells; status = length-replace m.status p v ∙ s.status; saves = s.saves; stores = s.stores }

  pub save-sized : (i v : ℕ) → SharedSized (set_save m i v)
  save-sized i v = record { cells = s.cells; status = s.status; saves = length-replace m.saves i v ∙ s.saves; stores = s.stores }

module _ (m : Shared) (t : Own) (p k x : ℕ) (shared : SharedSized m) (own : OwnSized t) where
  -- only the shared memory is written
  in_shared : (a : Exchanged) (n : Shared) → SharedSized n → ExchangeKept t (record { next = a; memory = n; task = t })
  in_shared a n s = record { shared = s; inits = own.inits; overlapped = own.overlapped; same = refl }

  install_sized : (i n w : ℕ) (b : Bool) → SharedSized (if b (went (Test i) (set_cell m n w)) (went (Fail i) m)).memory
  install_sized i n w true = cell-sized m shared n w
  install_sized i n w false = shared

  commit-sized : (i : ℕ) (b : Bool) → SharedSized (if b (went (cleaning i true) (set_status m p 2)) (went (cleaning i false) m)).memory
  commit-sized i true = status-sized m shared p 2
  commit-sized i false = shared

  clean-sized : (a b z : Bool) (n w y : ℕ) (e f : Exchanged) → SharedSized (cleaned a b z m n w y e f).memory
  clean-sized true true z n w y e f = cell-sized m shared n w
  clean-sized true false z n w y e f = shared
  clean-sized false true z n w y e f = cell-sized m shared n y
  clean-sized false false true n w y e f = shared
  clean-sized false false false n w y e f = shared

  abbrev looked : ℕ → ℕ → Bool → Noted Exchanged
  looked i w b = if b (noted (found i (value_of w)) (set_overlapped t i 0)) (noted (Goes (Fetch i)) (set_overlapped t i 1))

  look-kept : (i w : ℕ) (b : Bool) → ExchangeKept t (record { next = (looked i w b).next; memory = m; task = (looked i w b).task })
  look-kept i w true =
      record { shared = shared; inits = own.inits; overlapped = length-replace t.entries.overlapped i 0 ∙ own.overlapped; same = refl }
  look-kept i w false =
      record { shared = shared; inits = own.inits; overlapped = length-replace t.entries.overlapped i 1 ∙ own.overlapped; same = refl }

  pub exchange-kept : (z : Step) → ExchangeKept t (after_exchange m t p k x z)
  unfolding after_exchange after_start after_test after_load after_look after_fetch after_save after_fail marked after_mark after_install after_commit after_clean
      after_clean_mark
  exchange-kept Start = in_shared _ _ (status-sized m shared p 0)
  exchange-kept (Test i) = in_shared _ _ shared
  exchange-kept (Load i) = record {
    shared = shared;
    inits = length-replace t.entries.inits i _ ∙ own.inits;
    overlapped = length-replace t.entries.overlapped i 0 ∙ own.overlapped;
    same = refl;
  }
  exchange-kept (Look i) = look-kept i (at 0 t.entries.inits i) (owned m (at 0 t.entries.inits i))
  exchange-kept (Fetch i) = in_shared _ _ shared
  exchange-kept (Save i) = in_shared _ _ (save-sized m shared _ x)
  exchange-kept (Fail i) = in_shared _ _ (status-sized m shared p 1)
  exchange-kept (Mark i) = in_shared _ _ (status-sized m shared _ 1)
  exchange-kept (Install i) =
      in_shared _ _
      (install_sized (next_of i) _ _ (eqb (at 0 m.cells (at 0 t.entries.targets i)) (at 0 t.entries.inits i)))
  exchange-kept (Commit i) = in_shared _ _ (commit-sized i (eqb (at 0 m.status p) 0))
  exchange-kept (Clean i j yes?) =
      in_shared _ _
      (clean-sized (as_new (at 0 t.entries.olds j) (at 0 t.entries.news j) yes?)
      (eqb (at 0 m.cells (at 0 t.entries.targets j)) (installed_at t p j)) (eqb (at 0 t.entries.overlapped j) 0) _ _ _ _ _)
  exchange-kept (CleanMark i j yes?) = in_shared _ _ (status-sized m shared _ 1)

-- the task's record keeps its sizes with words of that number loaded
pub loading-sized : {t : Own} → OwnSized t → (l o : List ℕ) → length l ≡ 8 → length o ≡ 8 → OwnSized (loading t l o)
loading-sized s l o a b =
    entries-sized s _ (record { targets = s.targets; olds = s.olds; news = s.news; inits = a; overlapped = b })
