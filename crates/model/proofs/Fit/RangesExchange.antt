-- Reads and exchanges keep the ranges.
use Prim.Native.Nat.{ℕ, suc, ◌<◌, ◌≤◌}
use mathlib.Core.Bool.{Bool, true, false, ◌&&◌, ◌||◌}
use mathlib.Core.List.{List, []}
use native.Mathlib.Omega.{arith}
use lib.Dec.{eqb}
use lib.ListN.{length}
use Rattle.model.specs.Lists.{at, replace}
use Rattle.model.specs.Word.{Word, same_word, Memory, cell_of, status_of, own, set_cell, set_status, set_save}
use Rattle.model.specs.Word.{set_stored, Reading, loading, looking, fetching, read_tick, fresh_word, looking_by}
use Rattle.model.specs.Exchange.{Entry, entry, Step, start, test, load, look, fetch, fail, mark, install, commit}
use Rattle.model.specs.Exchange.{save, clean, clean_mark, Exchange, Exchanged, goes, ends, entry_at, changing}
use Rattle.model.specs.Exchange.{installed, cleaned, to, onward, test_by, after_save, install_by, clean_by, commit_by}
use Rattle.model.specs.Exchange.{next_by, next, clean_word_by, exchange_tick, with_init, init_loaded, look_by as look_at_by}
use Rattle.model.proofs.Fit.Elements.{replace-all}
use Rattle.model.proofs.Fit.Exchange.{entry_of, StepFit}
use Rattle.model.proofs.Fit.Ranges.{Value, WordRange, MemoryRange, ReadingRange, ReadRange, EntryRange, StepRange, ExchangeRange}

-- MEMORY
module _ {m : Memory} (f : MemoryRange m) where
  pub cell-range : (c : ℕ) (w : Word) → WordRange w → MemoryRange (set_cell m c w)
  cell-range c w h =
      record { cell = replace-all (fresh_word 0) WordRange m.cells c w h f.cell; status = f.status; save = f.save; store = f.store }

  pub status-range : (p v : ℕ) → v ≤ 2 → MemoryRange (set_status m p v)
  status-range p v h =
      record { cell = f.cell; status = replace-all 0 (λ (n : ℕ). n ≤ 2) m.status p v h f.status; save = f.save; store = f.store }

  -- a row with one value replaced
  row-range : (rows : List (List ℕ)) → ((p i : ℕ) → Value (at 0 (at [] rows p) i)) → (p i v : ℕ) → Value v → (q j : ℕ)
      → Value (at 0 (at [] (replace rows p (replace (at [] rows p) i v)) q) j)
  row-range rows old p i v h =
      replace-all [] (λ (row : List ℕ). (j : ℕ) → Value (at 0 row j)) rows p (replace (at [] rows p) i v)
      (replace-all 0 Value (at [] rows p) i v h (old p)) old

  pub save-range : (p i v : ℕ) → Value v → MemoryRange (set_save m p i v)
  save-range p i v h = record { cell = f.cell; status = f.status; save = row-range m.saves f.save p i v h; store = f.store }

  pub stored-range : (s n v : ℕ) → Value v → MemoryRange (set_stored m s n v)
  stored-range s n v h = record { cell = f.cell; status = f.status; save = f.save; store = row-range m.stores f.store s n v h }

  -- READ
  look-range : (b : Bool) (w : Word) → WordRange w → ReadRange (looking_by b w)
  unfolding looking_by
  look-range true w h = h.value
  look-range false w h = h

  pub read-range : (c : ℕ) (r : Reading) → ReadingRange r → ReadRange (read_tick m c r)
  unfolding read_tick
  read-range c loading h = f.cell c
  read-range c (looking w) h = look-range (own m.status w) w h
  read-range c (fetching w) h = f.save w.task w.count

-- EXCHANGES
pub record GoesRange (m : Memory) (x : Exchange) : Type 0 where
  pub memory : MemoryRange m
  pub exchange : ExchangeRange x

abbrev pub ExchangedRange : Exchanged → Type 0
ExchangedRange (goes m x) = GoesRange m x
ExchangedRange (ends m yes?) = MemoryRange m

module _ (p : ℕ) (hp : p < 8) {m : Memory} (f : MemoryRange m) (x : Exchange) (es : (i : ℕ) → EntryRange (entry_of x.entries i)) where
  on : {n : Memory} {s : Step} → MemoryRange n → StepRange s → ExchangedRange (goes n (to x s))
  on g h = record { memory = g; exchange = record { entry = es; step = h } }

  noted-range : (w : Word) (o : Bool) {s : Step} → WordRange w → StepRange s → ExchangedRange (goes m (init_loaded x w o s))
  noted-range w o h g =
      let e : Entry = entry_at x x.i in
      let r = es x.i in
      record {
        memory = f;
        exchange = record {
          entry = replace-all (entry 0 0 0) EntryRange x.entries x.i (with_init e w o) (record { old = r.old; new = r.new; init = h }) es;
          step = g;
        };
      }

  onward-range : {n : Memory} {s : Step} → MemoryRange n → StepRange s → ExchangedRange (goes n (onward x s))
  onward-range g h = record { memory = g; exchange = record { entry = es; step = h } }

  test_range : (b : Bool) → ExchangedRange (test_by b m x)
  unfolding test_by
  test_range true = on f tt
  test_range false = on f tt

  look-at-range : (b : Bool) (e : Entry) → EntryRange e → ExchangedRange (look_at_by b m x e)
  unfolding look_at_by
  look-at-range true e h = noted-range e.init false h.init h.init.value
  look-at-range false e h = noted-range e.init true h.init tt

  after-save : (same mark? : Bool) → StepRange (after_save same mark?)
  after-save false b = tt
  after-save true true = tt
  after-save true false = tt

  install_range : (b : Bool) (e : Entry) → EntryRange e → x.i < 8 → ExchangedRange (install_by b p m x e)
  unfolding install_by
  install_range true e h l = onward-range (cell-range f e.cell (installed p e x.i) (record { value = h.new; count = l; task = hp })) tt
  install_range false e h l = onward-range f tt

  clean-range : {n : Memory} (b yes? : Bool) → MemoryRange n → ExchangedRange (clean_by b n x yes?)
  unfolding clean_by
  clean-range true yes? g = g
  clean-range false yes? g = on g tt

  commit-range : (b : Bool) → ExchangedRange (commit_by b p m x)
  unfolding commit_by
  commit-range true = clean-range (eqb x.i 0) true (status-range f p 2 (omega arith))
  commit-range false = clean-range (eqb x.i 0) false f

  next-range : {n : Memory} (j : ℕ) (yes? : Bool) → MemoryRange n → ExchangedRange (next n x j yes?)
  unfolding next next_by
  next-range {n} j yes? g = go (eqb (suc j) x.i)
    where
      go : (b : Bool) → ExchangedRange (next_by b n x j yes?)
      go true = g
      go false = on g tt

  clean-word-range : (new same overlapped : Bool) (e : Entry) (j : ℕ) (yes? : Bool) → EntryRange e
      → ExchangedRange (clean_word_by new same overlapped p m x e j yes?)
  unfolding clean_word_by
  clean-word-range true true o e j yes? h =
      next-range j yes? (cell-range f e.cell (cleaned p e) (record { value = h.new; count = omega arith; task = hp }))
  clean-word-range true false o e j yes? h = next-range j yes? f
  clean-word-range false true o e j yes? h = next-range j yes? (cell-range f e.cell e.init h.init)
  clean-word-range false false true e j yes? h = on f tt
  clean-word-range false false false e j yes? h = next-range j yes? f

  pub exchange-range : (k : ℕ) → k ≤ 8 → (s : Step) → StepFit k x.i s → StepRange s → ExchangedRange (exchange_tick p m x s)
  unfolding exchange_tick
  exchange-range k most start h r = record { memory = status-range f p 0 (omega arith); exchange = record { entry = es; step = tt } }
  exchange-range k most test h r = test_range (eqb x.i (length x.entries) || eqb (status_of m p) 1)
  exchange-range k most load h r = noted-range (cell_of m (entry_at x x.i).cell) false (f.cell (entry_at x x.i).cell) tt
  exchange-range k most look h r = look-at-range (own m.status (entry_at x x.i).init) (entry_at x x.i) (es x.i)
  exchange-range k most fetch h r = on f (f.save (entry_at x x.i).init.task (entry_at x x.i).init.count)
  exchange-range k most (save v) h r =
      on (save-range f p x.i v r) (after-save (eqb v (entry_at x x.i).old) ((entry_at x x.i).overlapped && changing (entry_at x x.i)))
  exchange-range k most fail h r = on (status-range f p 1 (omega arith)) tt
  exchange-range k most mark h r = on (status-range f (entry_at x x.i).init.task 1 (omega arith)) tt
  exchange-range k most install h r =
      install_range (same_word (cell_of m (entry_at x x.i).cell) (entry_at x x.i).init) (entry_at x x.i) (es x.i) (omega arith)
  exchange-range k most commit h r = commit-range (eqb (status_of m p) 0)
  exchange-range k most (clean j yes?) h r =
      clean-word-range (yes? && changing (entry_at x j)) (same_word (cell_of m (entry_at x j).cell) (installed p (entry_at x j) j))
      (entry_at x j).overlapped (entry_at x j) j yes? (es j)
  exchange-range k most (clean_mark j yes?) h r = next-range j yes? (status-range f (entry_at x j).init.task 1 (omega arith))
