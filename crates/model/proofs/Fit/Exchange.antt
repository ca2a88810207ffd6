-- An exchange at work: its entries, how far it is at each step, and that a tick keeps it so.
use Prim.Native.Nat.{ℕ, ◌<◌, ◌≤◌, suc}
use mathlib.Core.Path.{◌≡◌, refl, sym, ◌∙◌, subst}
use mathlib.Core.Bool.{Bool, true, false, ◌&&◌, ◌||◌}
use mathlib.Core.List.{List}
use native.Mathlib.Omega.{arith}
use lib.ListN.{length}
use lib.Dec.{eqb}
use borrow.Author.Tests.{eqb-false}
use Rattle.model.specs.Lists.{at, replace}
use Rattle.model.specs.Word.{Word, same_word, Memory, cell_of, status_of, own, fresh_word}
use Rattle.model.specs.Exchange.{Entry, entry, Step, start, test, load, look, fetch, fail, mark, install, commit, save, clean, clean_mark}
use Rattle.model.specs.Exchange.{Exchange, Exchanged, goes, ends, exchange_of, entry_at, changing, installed, cleaned, to, onward, test_by, look_by}
use Rattle.model.specs.Exchange.{after_save, install_by, clean_by, commit_by, next_by, next, clean_word_by, exchange_tick, with_init, init_loaded}
use Rattle.model.proofs.Lists.{length-replace}
use Rattle.model.proofs.Fit.Elements.{or_none, replace-part}
use Rattle.model.proofs.Fit.Memory.{MemoryFit, cell_fit, status_fit, save_fit}

-- the entry with that number
abbrev pub entry_of : List Entry → ℕ → Entry
entry_of es i = at (entry 0 0 0) es i

-- at most eight entries, each for another cell, the cells from `low` on and below `high`
pub record EntriesFit (low high : ℕ) (es : List Entry) : Type 0 where
  pub most : length es ≤ 8
  pub from : (i : ℕ) → i < length es → low ≤ (entry_of es i).cell
  pub below : (i : ℕ) → i < length es → (entry_of es i).cell < high
  pub different : (i j : ℕ) → i < length es → j < length es → (entry_of es i).cell ≡ (entry_of es j).cell → i ≡ j

-- nothing with_init yet
pub record Unloaded (es : List Entry) : Type 0 where
  pub init : (i : ℕ) → (entry_of es i).init ≡ fresh_word 0
  pub overlapped : (i : ℕ) → (entry_of es i).overlapped ≡ false

-- the same cells, old and new values, in order
pub record SamePairs (es ps : List Entry) : Type 0 where
  pub size : length es ≡ length ps
  pub cell : (i : ℕ) → (entry_of es i).cell ≡ (entry_of ps i).cell
  pub old : (i : ℕ) → (entry_of es i).old ≡ (entry_of ps i).old
  pub new : (i : ℕ) → (entry_of es i).new ≡ (entry_of ps i).new

pub record Below (j i k : ℕ) : Type 0 where
  pub clean : j < i
  pub most : i ≤ k

-- of k entries, i at a step
abbrev pub StepFit : ℕ → ℕ → Step → Type 0
StepFit k i start = i ≡ 0
StepFit k i test = i ≤ k
StepFit k i load = i < k
StepFit k i look = i < k
StepFit k i fetch = i < k
StepFit k i fail = i ≤ k
StepFit k i mark = i < k
StepFit k i install = i < k
StepFit k i commit = i ≤ k
StepFit k i (save v) = i < k
StepFit k i (clean j yes?) = Below j i k
StepFit k i (clean_mark j yes?) = Below j i k

-- an exchange of the pairs `ps`
pub record ExchangeFit (low high : ℕ) (ps : List Entry) (x : Exchange) : Type 0 where
  pub some : 1 ≤ length x.entries
  pub entries : EntriesFit low high x.entries
  pub same : SamePairs x.entries ps
  pub step : StepFit (length x.entries) x.i x.step

-- A TICK
-- what a tick leaves: memory and, while it goes on, the exchange
pub record GoesFit (low high : ℕ) (ps : List Entry) (m : Memory) (x : Exchange) : Type 0 where
  pub memory : MemoryFit m
  pub exchange : ExchangeFit low high ps x

abbrev pub ExchangedFit : ℕ → ℕ → List Entry → Exchanged → Type 0
ExchangedFit low high ps (goes m x) = GoesFit low high ps m x
ExchangedFit low high ps (ends m yes?) = MemoryFit m

-- SAME PAIRS
pub same_refl : (ps : List Entry) → SamePairs ps ps
same_refl ps = record { size = refl; cell = λ i. refl; old = λ i. refl; new = λ i. refl }

pub same_entries : {low high : ℕ} {es ps : List Entry} → SamePairs es ps → EntriesFit low high ps → EntriesFit low high es
same_entries {low} {high} {es} {ps} s f =
    record {
      most = rw s.size f.most;
      from = λ i h. rw (s.cell i) (f.from i (rw s.size at h));
      below = λ i h. rw (s.cell i) (f.below i (rw s.size at h));
      different = λ i j hi hj e. f.different i j (rw s.size at hi) (rw s.size at hj) (rw (s.cell i, s.cell j) at e);
    }

noted-same : {es ps : List Entry} → SamePairs es ps → (i : ℕ) (w : Word) (o : Bool) → SamePairs (replace es i (with_init (entry_of es i) w o)) ps
noted-same {es} {ps} s i w o =
    let e : Entry = with_init (entry_of es i) w o in
    record {
      size = length-replace es i e ∙ s.size;
      cell = λ j. replace-part (entry 0 0 0) (λ (a : Entry). a.cell) es i e refl j ∙ s.cell j;
      old = λ j. replace-part (entry 0 0 0) (λ (a : Entry). a.old) es i e refl j ∙ s.old j;
      new = λ j. replace-part (entry 0 0 0) (λ (a : Entry). a.new) es i e refl j ∙ s.new j;
    }

module _ {low high : ℕ} {ps : List Entry} (some : 1 ≤ length ps) (fits : EntriesFit low high ps) where
  exchange-of : {es : List Entry} {i : ℕ} {s : Step} → SamePairs es ps → StepFit (length es) i s
      → ExchangeFit low high ps (record { entries = es; i = i; step = s })
  exchange-of s f = record { some = rw s.size some; entries = same_entries s fits; same = s; step = f }

  -- an exchange with its pairs, as it starts
  pub exchange-start : ExchangeFit low high ps (exchange_of ps)
  exchange-start = exchange-of (same_refl ps) refl

  module _ (p : ℕ) {m : Memory} (f : MemoryFit m) (x : Exchange) (s : SamePairs x.entries ps) where
    on : {m : Memory} {s' : Step} → MemoryFit m → StepFit (length x.entries) x.i s' → ExchangedFit low high ps (goes m (to x s'))
    on g h = record { memory = g; exchange = exchange-of s h }

    load-on : {m : Memory} (w : Word) (o : Bool) {s' : Step} → MemoryFit m → StepFit (length x.entries) x.i s'
        → ExchangedFit low high ps (goes m (init_loaded x w o s'))
    load-on w o {s'} g h =
        record {
          memory = g;
          exchange =
              exchange-of (noted-same s x.i w o)
              (subst (λ (n : ℕ). StepFit n x.i s') (sym (length-replace x.entries x.i (with_init (entry_of x.entries x.i) w o))) h);
        }

    onward-on : {m : Memory} {s' : Step} → MemoryFit m → StepFit (length x.entries) (suc x.i) s'
        → ExchangedFit low high ps (goes m (onward x s'))
    onward-on g h = record { memory = g; exchange = exchange-of s h }

    test_fit : (b : Bool) → (eqb x.i (length x.entries) || eqb (status_of m p) 1) ≡ b → x.i ≤ length x.entries
        → ExchangedFit low high ps (test_by b m x)
    unfolding test_by
    test_fit true e h = on f h
    test_fit false e h =
        let n = eqb-false x.i (length x.entries) (or_none (eqb x.i (length x.entries)) (eqb (status_of m p) 1) e) in
        let below : x.i < length x.entries = omega arith in
        on f below

    look_fit : (b : Bool) (e : Entry) → x.i < length x.entries → ExchangedFit low high ps (look_by b m x e)
    unfolding look_by
    look_fit true e h = load-on e.init false f h
    look_fit false e h = load-on e.init true f h

    after-save : (same mark? : Bool) → x.i < length x.entries → StepFit (length x.entries) x.i (after_save same mark?)
    after-save false b h = omega arith
    after-save true true h = h
    after-save true false h = h

    install_fit : (b : Bool) (e : Entry) → x.i < length x.entries → ExchangedFit low high ps (install_by b p m x e)
    unfolding install_by
    install_fit true e h = onward-on (cell_fit f e.cell (installed p e x.i)) h
    install_fit false e h = onward-on f h

    clean_fit : {m : Memory} (b : Bool) → eqb x.i 0 ≡ b → (yes? : Bool) → MemoryFit m → x.i ≤ length x.entries
        → ExchangedFit low high ps (clean_by b m x yes?)
    unfolding clean_by
    clean_fit true e yes? g h = g
    clean_fit false e yes? g h =
        let n = eqb-false x.i 0 e in
        on g (record { clean = omega arith; most = h })

    commit_fit : (b : Bool) → x.i ≤ length x.entries → ExchangedFit low high ps (commit_by b p m x)
    unfolding commit_by
    commit_fit true h = clean_fit (eqb x.i 0) refl true (status_fit f p 2) h
    commit_fit false h = clean_fit (eqb x.i 0) refl false f h

    next_fit : {m : Memory} (j : ℕ) (yes? : Bool) → MemoryFit m → Below j x.i (length x.entries) → ExchangedFit low high ps (next m x j yes?)
    unfolding next next_by
    next_fit {m} j yes? g h = go (eqb (suc j) x.i) refl
      where
        go : (b : Bool) → eqb (suc j) x.i ≡ b → ExchangedFit low high ps (next_by b m x j yes?)
        go true e = g
        go false e =
            let n = eqb-false (suc j) x.i e in
            on g (record { clean = omega arith; most = h.most })

    clean-word_fit : (new same overlapped : Bool) (e : Entry) (j : ℕ) (yes? : Bool) → Below j x.i (length x.entries)
        → ExchangedFit low high ps (clean_word_by new same overlapped p m x e j yes?)
    unfolding clean_word_by
    clean-word_fit true true o e j yes? h = next_fit j yes? (cell_fit f e.cell (cleaned p e)) h
    clean-word_fit true false o e j yes? h = next_fit j yes? f h
    clean-word_fit false true o e j yes? h = next_fit j yes? (cell_fit f e.cell e.init) h
    clean-word_fit false false true e j yes? h = on f h
    clean-word_fit false false false e j yes? h = next_fit j yes? f h

    step_fit : (step : Step) → StepFit (length x.entries) x.i step → ExchangedFit low high ps (exchange_tick p m x step)
    unfolding exchange_tick
    step_fit start h = record { memory = status_fit f p 0; exchange = exchange-of s (omega arith) }
    step_fit test h = test_fit _ refl h
    step_fit load h = load-on (cell_of m (entry_at x x.i).cell) false f h
    step_fit look h = look_fit (own m.status (entry_at x x.i).init) (entry_at x x.i) h
    step_fit fetch h = on f h
    step_fit (save v) h =
        on (save_fit f p x.i v) (after-save (eqb v (entry_at x x.i).old) ((entry_at x x.i).overlapped && changing (entry_at x x.i)) h)
    step_fit fail h = on (status_fit f p 1) h
    step_fit mark h = on (status_fit f (entry_at x x.i).init.task 1) h
    step_fit install h = install_fit (same_word (cell_of m (entry_at x x.i).cell) (entry_at x x.i).init) (entry_at x x.i) h
    step_fit commit h = commit_fit (eqb (status_of m p) 0) h
    step_fit (clean j yes?) h =
        clean-word_fit (yes? && changing (entry_at x j)) (same_word (cell_of m (entry_at x j).cell) (installed p (entry_at x j) j))
        (entry_at x j).overlapped (entry_at x j) j yes? h
    step_fit (clean_mark j yes?) h = next_fit j yes? (status_fit f (entry_at x j).init.task 1) h

-- a tick of an exchange at its step
pub exchange_fit : {low high : ℕ} {ps : List Entry} (p : ℕ) {m : Memory} {x : Exchange} → MemoryFit m → ExchangeFit low high ps x
    → EntriesFit low high ps → ExchangedFit low high ps (exchange_tick p m x x.step)
exchange_fit p {m} {x} f e fits = step_fit (rw e.same.size at e.some) fits p f x e.same x.step e.step
