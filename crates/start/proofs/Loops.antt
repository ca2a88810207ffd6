-- What is filled at the start: the cells of a sheet that declares nothing, and a task's copies.
use Prim.Native.Nat.{ℕ}
use mathlib.Core.Path.{◌≡◌, refl, sym, subst}
use Rattle.model.specs.Word.{fresh_word}
use Rattle.model.specs.Start.{filled, banks_from, copies_of, start_memory}
use Rattle.state.specs.Packed.{unpack}
use Rattle.state.specs.Rows.{row, rows_from, rows}
use Rattle.state.specs.State.{Shared, filled_with, Own, with_copies, own_zeros}
use Rattle.start.specs.Start.{SharedStarts, OwnStarts}
use Rattle.start.specs.Declaring.{nothing}

-- CELLS: all hold that word
pub all_blanked : {m : Shared} (word : ℕ) → unpack word ≡ fresh_word 0 → m ≡ filled_with word → SharedStarts nothing m
unfolding start_memory filled banks_from row rows_from rows
all_blanked word e h =
    subst (SharedStarts nothing) (sym h) (record { memory = rw e; sized = record { cells = refl; status = refl; saves = refl; stores = refl } })

-- COPIES of task p
pub all-copied : {t : Own} (p : ℕ) → t ≡ with_copies own_zeros (copies_of p) → OwnStarts p t
all-copied p e = subst (OwnStarts p) (sym e) (record {
  registers = refl;
  copies = refl;
  counts = refl;
  sized =
      record {
        registers = refl;
        kept = refl;
        copies = refl;
        targets = refl;
        olds = refl;
        news = refl;
        inits = refl;
        overlapped = refl;
        slots = refl;
        remembered = refl;
        counts = refl;
      };
})
