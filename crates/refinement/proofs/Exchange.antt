-- Every step of an exchange over the shared memory and the task's record is the model's.
use Prim.Native.Nat.{ℕ, suc, ◌<◌, ◌≤◌}
use mathlib.Core.Path.{◌≡◌, refl, sym, ap, ◌∙◌}
use mathlib.Core.Bool.{Bool, true, false, not, ◌&&◌, ◌||◌}
use mathlib.Core.List.{List, map}
use native.Mathlib.Omega.{arith}
use lib.Dec.{eqb}
use Rattle.model.specs.Lists.{at, replace}
use Rattle.model.specs.Word as W
use Rattle.model.specs.Exchange as X
use Rattle.model.proofs.Lists.{map-replace}
use Rattle.model.proofs.Fit.Exchange.{StepFit}
use Rattle.state.specs.Packed.{unpack, packed, value_of}
use Rattle.state.specs.State.{Shared, set_cell, set_status, Own, set_overlapped}
use Rattle.state.proofs.Packed.{unpack-packed, same-packed}
use Rattle.exchanges.specs.Places.{if, next_of, went, Noted, noted, Left, left}
use Rattle.exchanges.specs.Reading.{owned}
use Rattle.exchanges.specs.Exchange.{found, after_start, after_test, after_load, after_look, after_fetch, saved_step, after_save, after_fail, marked}
use Rattle.exchanges.specs.Exchange.{after_mark, installed_at, after_install, cleaning, after_commit, onward, as_new, cleaned, after_clean}
use Rattle.exchanges.specs.Exchange.{after_clean_mark, in_memory, goes_on, after_exchange}
use Rattle.exchanges.specs.declared.exchange.Step.{Step}
use Rattle.exchanges.specs.declared.exchange.Step.TheVariants.{Start, Test, Load, Look, Fetch, Save, Fail, Mark, Install, Commit, Clean, CleanMark}
use Rattle.exchanges.specs.declared.exchange.Exchanged.{Exchanged}
use Rattle.exchanges.specs.declared.exchange.Exchanged.TheVariants.{Goes, Finds, Ends}
use Rattle.state.specs.Held.{memory_of}
use Rattle.refinement.proofs.View.{entry_of, entries_of, number_of, step_of, exchange_of}
use Rattle.state.specs.Sized.{SharedSized, OwnSized}
use Rattle.state.proofs.Held.{cell_at}
use Rattle.exchanges.proofs.Reading.{own-unpack}
use Rattle.refinement.proofs.Memory.{rows_written}
use Rattle.refinement.proofs.Entries.{at-entries, length-entries, entries-loaded, entries_looked}
use Rattle.exchanges.proofs.Reading.{saved-for}

-- what is known of the k entries
pub record ExchangeShape (t : Own) (k : ℕ) : Type 0 where
  pub pairs : k ≤ 8
  pub target : (e : ℕ) → e < k → at 0 t.entries.targets e < 48
  pub new : (e : ℕ) → e < k → at 0 t.entries.news e < 4294967296

-- what a tick leaves: the memory, and the entries of the exchange if it goes on, with y the value found last before
abbrev pub exchanged_of : W.Memory → List X.Entry → ℕ → Exchanged → X.Exchanged
exchanged_of m es y (Goes s) = X.goes m (exchange_of es y s)
exchanged_of m es y (Finds g) = X.goes m (exchange_of es g.value (Save g.i))
exchanged_of m es y (Ends yes?) = X.ends m yes?

abbrev exchange : List X.Entry → ℕ → X.Step → X.Exchange
exchange es i z = record { entries = es; i = i; step = z }

next-of : (i : ℕ) → i < 9 → next_of i ≡ suc i
next-of i h = omega arith

-- THE TESTS
module _ (m : W.Memory) (es : List X.Entry) (y : ℕ) where
  test-by : (i : ℕ) (t : Bool) → X.test_by t m (exchange es i X.test) ≡ exchanged_of m es y (Goes (if t (Commit i) (Load i)))
  unfolding X.test_by
  test-by i true = refl
  test-by i false = refl

  saved-step : (i : ℕ) (a z n : Bool) → X.goes m (exchange es i (X.after_save a (not z && not n))) ≡ exchanged_of m es y (Goes (saved_step a z n i))
  saved-step i false z n = refl
  saved-step i true true n = refl
  saved-step i true false true = refl
  saved-step i true false false = refl

  clean-by : (i : ℕ) (z : X.Step) (yes? t : Bool)
      → X.clean_by t m (exchange es i z) yes? ≡ exchanged_of m es y (if t (Ends yes?) (Goes (Clean i 0 yes?)))
  unfolding X.clean_by
  clean-by i z yes? true = refl
  clean-by i z yes? false = refl

  next-by : (i j : ℕ) (z : X.Step) (yes? t : Bool)
      → X.next_by t m (exchange es i z) j yes? ≡ exchanged_of m es y (if t (Ends yes?) (Goes (Clean i (suc j) yes?)))
  unfolding X.next_by
  next-by i j z yes? true = refl
  next-by i j z yes? false = refl

  next-onward : (i j : ℕ) (z : X.Step) (yes? : Bool) → j < 8 → X.next m (exchange es i z) j yes? ≡ exchanged_of m es y (onward i j yes?)
  unfolding X.next
  next-onward i j z yes? h = rw (next-of j (omega arith)) (next-by i j z yes? (eqb (suc j) i))

as-new : (yes? t : Bool) → yes? && not t ≡ if t false yes?
as-new true true = refl
as-new true false = refl
as-new false true = refl
as-new false false = refl

module _ (m : Shared) (t : Own) (p k y : ℕ) (shared : SharedSized m) (own : OwnSized t) (f : ExchangeShape t k) where
  abbrev es : List X.Entry
  es = entries_of k t.entries

  -- what the record holds for entry i, and what its cell holds
  abbrev target : ℕ → ℕ
  target i = at 0 t.entries.targets i

  abbrev old : ℕ → ℕ
  old i = at 0 t.entries.olds i

  abbrev new : ℕ → ℕ
  new i = at 0 t.entries.news i

  abbrev init : ℕ → ℕ
  init i = at 0 t.entries.inits i

  abbrev clear : ℕ → Bool
  clear i = eqb (at 0 t.entries.overlapped i) 0

  abbrev held : ℕ → ℕ
  held i = at 0 m.cells (target i)

  abbrev left_of : Left Exchanged → X.Exchanged
  left_of w = exchanged_of (memory_of w.memory) (entries_of k w.task.entries) y w.next

  abbrev Agrees : Step → Type 0
  Agrees z = X.exchange_tick p (memory_of m) (exchange_of es y z) (step_of y z) ≡ left_of (after_exchange m t p k y z)

  load-tick : (i : ℕ) → i < k → Agrees (Load i)
  unfolding X.exchange_tick after_exchange after_load
  load-tick i h =
      rw (
        at-entries k t i h,
        cell_at m.cells (target i) (omega (arith, f.target i h, shared.cells)),
        entries-loaded k t i (held i) 0 (omega (arith, own.inits, f.pairs)) (omega (arith, own.overlapped, f.pairs)),
      )

  abbrev looked : ℕ → Bool → Noted Exchanged
  looked i b = if b (noted (found i (value_of (init i))) (set_overlapped t i 0)) (noted (Goes (Fetch i)) (set_overlapped t i 1))

  look-by : (i : ℕ) → i < k → (b : Bool) → X.look_by b (memory_of m) (exchange_of es y (Look i)) (entry_of t.entries i)
      ≡ left_of (left (looked i b).next m (looked i b).task)
  unfolding X.look_by unpack
  look-by i h true = rw (at-entries k t i h, entries_looked k t i 0 (omega (arith, own.overlapped, f.pairs)))
  look-by i h false = rw (at-entries k t i h, entries_looked k t i 1 (omega (arith, own.overlapped, f.pairs)))

  look-tick : (i : ℕ) → i < k → Agrees (Look i)
  unfolding X.exchange_tick after_exchange after_look
  look-tick i h = rw (at-entries k t i h, own-unpack m (init i)) (look-by i h (owned m (init i)))

  fetch_tick : (i : ℕ) → i < k → Agrees (Fetch i)
  unfolding X.exchange_tick after_exchange after_fetch
  fetch_tick i h = rw (at-entries k t i h, saved-for m (init i) shared.saves)

  save-tick : (i : ℕ) → i < k → Agrees (Save i)
  unfolding X.exchange_tick after_exchange after_save
  save-tick i h =
      rw (at-entries k t i h, rows_written 8 8 p i y m.saves (omega (arith, f.pairs)))
      (saved-step _ es y i (eqb y (old i)) (clear i) (eqb (old i) (new i)))

  mark_tick : (i : ℕ) → i < k → Agrees (Mark i)
  unfolding X.exchange_tick after_exchange after_mark marked unpack
  mark_tick i h = rw (at-entries k t i h)

  -- a word that this exchange writes to its cell
  written : (e count : ℕ) (valid : Bool) → e < k → count < 8
      → map unpack (replace m.cells (target e) (packed (new e) count valid p))
      ≡ replace (map unpack m.cells) (target e) (record { value = new e; count = count; valid = valid; task = p })
  written e count valid h g =
      map-replace unpack m.cells _ _
      ∙ ap (replace (map unpack m.cells) (target e)) (unpack-packed (new e) count valid p (f.new e h) g)

  cell-now : (e : ℕ) → e < k → at (W.fresh_word 0) (map unpack m.cells) (target e) ≡ unpack (held e)
  cell-now e h = cell_at m.cells (target e) (omega (arith, f.target e h, shared.cells))

  install-by : (i : ℕ) → i < k → (b : Bool) → X.install_by b p (memory_of m) (exchange_of es y (Install i)) (entry_of t.entries i)
      ≡ left_of (goes_on t (if b (went (Test (next_of i)) (set_cell m (target i) (installed_at t p i))) (went (Fail (next_of i)) m)))
  unfolding X.install_by
  install-by i h true = rw (next-of i (omega (arith, f.pairs)), written i i false h (omega (arith, f.pairs)))
  install-by i h false = rw (next-of i (omega (arith, f.pairs)))

  install_tick : (i : ℕ) → i < k → Agrees (Install i)
  unfolding X.exchange_tick after_exchange after_install
  install_tick i h =
      rw (at-entries k t i h, cell-now i h, same-packed (held i) (init i))
      (install-by i h (eqb (held i) (init i)))

  commit-by : (i : ℕ) (b : Bool)
      → X.commit_by b p (memory_of m) (exchange_of es y (Commit i))
      ≡ left_of (in_memory t (if b (went (cleaning i true) (set_status m p 2)) (went (cleaning i false) m)))
  unfolding X.commit_by
  commit-by i true = clean-by (memory_of (set_status m p 2)) es y i X.commit true (eqb i 0)
  commit-by i false = clean-by (memory_of m) es y i X.commit false (eqb i 0)

  commit-tick : (i : ℕ) → Agrees (Commit i)
  unfolding X.exchange_tick after_exchange after_commit
  commit-tick i = commit-by i (eqb (at 0 m.status p) 0)

  clean-word : (i j : ℕ) (yes? : Bool) → j < k → (a b z : Bool)
      → X.clean_word_by a b (not z) p (memory_of m) (exchange_of es y (Clean i j yes?)) (entry_of t.entries j) j yes?
      ≡ left_of (in_memory t (cleaned a b z m (target j) (packed (new j) 0 true p) (init j) (onward i j yes?) (Goes (CleanMark i j yes?))))
  unfolding X.clean_word_by
  clean-word i j yes? h true true z = rw (written j 0 true h (omega arith)) (next-onward _ es y i j _ yes? (omega (arith, f.pairs)))
  clean-word i j yes? h true false z = next-onward (memory_of m) es y i j _ yes? (omega (arith, f.pairs))
  clean-word i j yes? h false true z =
      rw (map-replace unpack m.cells (target j) (init j)) (next-onward _ es y i j _ yes? (omega (arith, f.pairs)))
  clean-word i j yes? h false false true = next-onward (memory_of m) es y i j _ yes? (omega (arith, f.pairs))
  clean-word i j yes? h false false false = refl

  -- still as installed
  still : (j : ℕ) → j < k → W.same_word (unpack (held j)) (X.installed p (entry_of t.entries j) j) ≡ eqb (held j) (installed_at t p j)
  still j h =
      ap (W.same_word (unpack (held j))) (sym (unpack-packed (new j) j false p (f.new j h) (omega (arith, f.pairs))))
      ∙ same-packed (held j) (installed_at t p j)

  clean-tick : (i j : ℕ) (yes? : Bool) → j < k → Agrees (Clean i j yes?)
  unfolding X.exchange_tick after_exchange after_clean
  clean-tick i j yes? h =
      rw (at-entries k t j h, cell-now j h, still j h, as-new yes? (eqb (old j) (new j)))
      (clean-word i j yes? h (as_new (old j) (new j) yes?) (eqb (held j) (installed_at t p j)) (clear j))

  clean_mark_tick : (i j : ℕ) (yes? : Bool) → j < k → Agrees (CleanMark i j yes?)
  unfolding X.exchange_tick after_exchange after_clean_mark marked unpack
  clean_mark_tick i j yes? h = rw (at-entries k t j h) (next-onward _ es y i j _ yes? (omega (arith, f.pairs)))

  pub exchange-tick : (z : Step) → StepFit k (number_of z) (step_of y z) → Agrees z
  unfolding X.exchange_tick after_exchange after_start after_test after_fail
  exchange-tick Start h = refl
  exchange-tick (Test i) h = rw (length-entries k t) (test-by (memory_of m) es y i (eqb i k || eqb (at 0 m.status p) 1))
  exchange-tick (Load i) h = load-tick i h
  exchange-tick (Look i) h = look-tick i h
  exchange-tick (Fetch i) h = fetch_tick i h
  exchange-tick (Save i) h = save-tick i h
  exchange-tick (Fail i) h = refl
  exchange-tick (Mark i) h = mark_tick i h
  exchange-tick (Install i) h = install_tick i h
  exchange-tick (Commit i) h = commit-tick i
  exchange-tick (Clean i j yes?) h = clean-tick i j yes? (omega (arith, h.clean, h.most))
  exchange-tick (CleanMark i j yes?) h = clean_mark_tick i j yes? (omega (arith, h.clean, h.most))
