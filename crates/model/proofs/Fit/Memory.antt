-- The shared memory has the sizes that document 01 gives it.
use Prim.Native.Nat.{ℕ, ◌<◌}
use mathlib.Core.Path.{◌≡◌, ◌∙◌}
use mathlib.Core.List.{List, []}
use lib.ListN.{length}
use Rattle.model.specs.Lists.{at, replace}
use Rattle.model.specs.Word.{Word, Memory, set_cell, set_status, set_save, set_stored}
use Rattle.model.proofs.Lists.{length-replace}
use Rattle.model.proofs.Fit.Elements.{replace-part}

pub record MemoryFit (m : Memory) : Type 0 where
  pub cells : length m.cells ≡ 48
  pub status : length m.status ≡ 8
  pub saves : length m.saves ≡ 8
  pub save : (p : ℕ) → p < 8 → length (at [] m.saves p) ≡ 8
  pub stores : length m.stores ≡ 48
  pub store : (s : ℕ) → s < 48 → length (at [] m.stores s) ≡ 8

-- a row with one element replaced is as long as before
row-size : (l : List (List ℕ)) (p i v q : ℕ) → length (at [] (replace l p (replace (at [] l p) i v)) q) ≡ length (at [] l q)
row-size l p i v q = replace-part [] length l p (replace (at [] l p) i v) (length-replace (at [] l p) i v) q

module _ {m : Memory} (f : MemoryFit m) where
  pub cell_fit : (c : ℕ) (w : Word) → MemoryFit (set_cell m c w)
  cell_fit c w =
      record { cells = length-replace m.cells c w ∙ f.cells; status = f.status; saves = f.saves; save = f.save; stores = f.stores; store = f.store }

  pub status_fit : (p v : ℕ) → MemoryFit (set_status m p v)
  status_fit p v =
      record { cells = f.cells; status = length-replace m.status p v ∙ f.status; saves = f.saves; save = f.save; stores = f.stores; store = f.store }

  pub save_fit : (p i v : ℕ) → MemoryFit (set_save m p i v)
  save_fit p i v =
      record {
        cells = f.cells;
        status = f.status;
        saves = length-replace m.saves p (replace (at [] m.saves p) i v) ∙ f.saves;
        save = λ q h. row-size m.saves p i v q ∙ f.save q h;
        stores = f.stores;
        store = f.store;
      }

  pub stored_fit : (s n v : ℕ) → MemoryFit (set_stored m s n v)
  stored_fit s n v =
      record {
        cells = f.cells;
        status = f.status;
        saves = f.saves;
        save = f.save;
        stores = length-replace m.stores s (replace (at [] m.stores s) n v) ∙ f.stores;
        store = λ q h. row-size m.stores s n v q ∙ f.store q h;
      }
