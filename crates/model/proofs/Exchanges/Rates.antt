-- Rates: a reading takes 2 or 3 ticks of its task, an exchange exactly as many as its steps tell, so of k entries at most 9k + 4, whatever
-- the other tasks do in between.
use Prim.Native.Nat.{ℕ, suc, ◌+◌, ◌*◌, ◌<◌, ◌≤◌}
use mathlib.Core.Bool.{Bool, true, false}
use mathlib.Core.Path.{◌≡◌, refl, sym, ap, subst}
use mathlib.Core.Logic.{◌⊎◌, inl, inr}
use mathlib.Core.List.{List}
use native.Mathlib.Omega.{arith}
use lib.ListN.{length}
use Rattle.model.specs.Word.{Word, Memory, cell_of, status_of, own, Reading, loading, looking, fetching, reads, gives, read_tick, looking_by}
use Rattle.model.specs.Exchange.{Entry, Step, start, test, load, look, fetch, fail, mark, install, commit, save, clean, clean_mark}
use Rattle.model.specs.Exchange.{Exchange, exchange_of, goes, ends, exchange_tick}
use Rattle.model.specs.ExactTicks.{Tally, no_tally, tally_of, TakesExactly}
use Rattle.model.proofs.Lists.{impossible}
use Rattle.model.proofs.Exchanges.Outcome.{outcome}
use Rattle.model.proofs.Exchanges.Exact.{Tallied, Good, AtEntry, Cleaning, Exact, Ticked, ExactAfter, tick-exact}
pub use Rattle.model.proofs.Exchanges.Exact.{MarksOther, plus}

-- READINGS
-- a reading of cell c that has done t ticks and not ended, the memory being any at each of them
pub data Reads (c : ℕ) : ℕ → Reading → Type 0 where
  at_first : Reads c 0 loading
  goes_on_reading : {t : ℕ} {r s : Reading} (m : Memory) → Reads c t r → read_tick m c r ≡ reads s → Reads c (suc t) s

-- after t ticks
abbrev pub ReadingAt : ℕ → Reading → Type 0
ReadingAt t loading = t ≡ 0
ReadingAt t (looking w) = t ≡ 1
ReadingAt t (fetching w) = t ≡ 2

module _ (c t : ℕ) where
  looked_on : (w : Word) (s : Reading) (b : Bool) → looking_by b w ≡ reads s → s ≡ fetching w
  unfolding looking_by
  looked_on w s true e = impossible (cc)
  looked_on w s false e = cc

  read-on : (m : Memory) (r s : Reading) → read_tick m c r ≡ reads s → ReadingAt t r → ReadingAt (suc t) s
  unfolding read_tick
  read-on m loading s e h = let k : looking (cell_of m c) ≡ s = cc in subst (λ (z : Reading). ReadingAt (suc t) z) k (ap suc h)
  read-on m (looking w) s e h = subst (λ (z : Reading). ReadingAt (suc t) z) (sym (looked_on w s (own m.status w) e)) (ap suc h)
  read-on m (fetching w) s e h = impossible (cc)

reading-at : {c t : ℕ} {r : Reading} → Reads c t r → ReadingAt t r
reading-at at_first = refl
reading-at {c} (goes_on_reading {t} {r} {s} m R e) = read-on c t m r s e (reading-at R)

-- the tick that gives the value is the second or the third
pub reading_rate : {c t : ℕ} {r : Reading} → Reads c t r → (m : Memory) (v : ℕ) → read_tick m c r ≡ gives v → (suc t ≡ 2) ⊎ (suc t ≡ 3)
unfolding read_tick
reading_rate {c} {t} {r} R m v e = go r (reading-at R) e
  where
    go : (r : Reading) → ReadingAt t r → read_tick m c r ≡ gives v → (suc t ≡ 2) ⊎ (suc t ≡ 3)
    go loading h e = impossible (cc)
    go (looking w) h e = inl (ap suc h)
    go (fetching w) h e = inr (ap suc h)

-- and one that goes on has done fewer than 3
pub reading-ends : {c t : ℕ} {r : Reading} → Reads c t r → t < 3
reading-ends {c} {t} {r} R = go r (reading-at R)
  where
    go : (r : Reading) → ReadingAt t r → t < 3
    go loading h = omega arith
    go (looking w) h = omega arith
    go (fetching w) h = omega arith

-- EXCHANGES
-- task p's exchange of those entries has done t ticks of its own and that in them, and has not ended; what the others do keeps p's status
-- if it is 1
pub data Ran (p : ℕ) (es : List Entry) : ℕ → Tally → Memory → Exchange → Type 0 where
  before-start : (m : Memory) → Ran p es 0 no_tally m (exchange_of es)
  own-tick : {t : ℕ} {c : Tally} {m n : Memory} {x y : Exchange} → Ran p es t c m x → p < length m.status → MarksOther p x x.step
      → exchange_tick p m x x.step ≡ goes n y → Ran p es (suc t) (plus c (tally_of p m x x.step)) n y
  others : {t : ℕ} {c : Tally} {m n : Memory} {x : Exchange} → Ran p es t c m x → (status_of m p ≡ 1 → status_of n p ≡ 1) → Ran p es t c n x

-- what the others do
others_exact : (t k i status status' : ℕ) (c : Tally) → (status ≡ 1 → status' ≡ 1) → (s : Step) → Exact t k i status c s
    → Exact t k i status' c s
others_exact t k i status status' c f start h = h
others_exact t k i status status' c f test h = (h.0, go h.1)
  where
    go : Good c ⊎ (status ≡ 1) → Good c ⊎ (status' ≡ 1)
    go (inl a) = inl a
    go (inr a) = inr (f a)
others_exact t k i status status' c f load h = h
others_exact t k i status status' c f look h = h
others_exact t k i status status' c f fetch h = h
others_exact t k i status status' c f (save v) h = h
others_exact t k i status status' c f fail h = h
others_exact t k i status status' c f mark h = h
others_exact t k i status status' c f install h = h
others_exact t k i status status' c f commit h = (h.0, go h.1)
  where
    go : ((i ≡ k) × Good c) ⊎ (status ≡ 1) → ((i ≡ k) × Good c) ⊎ (status' ≡ 1)
    go (inl a) = inl a
    go (inr a) = inr (f a)
others_exact t k i status status' c f (clean j yes?) h = h
others_exact t k i status status' c f (clean_mark j yes?) h = h

ran_exact : {p : ℕ} {es : List Entry} {t : ℕ} {c : Tally} {m : Memory} {x : Exchange} → Ran p es t c m x → Ticked t c (length es) p m x
ran_exact (before-start m) = record { size = refl; exact = (refl, refl) }
ran_exact {p} {es} (own-tick {t} {c} {m} {n} {x} {y} r l o e) =
    let b : ExactAfter (suc t) (plus c (tally_of p m x x.step)) (length es) p (exchange_tick p m x x.step) =
    tick-exact (ran_exact r) l o (outcome p m x) in
    rw e at b
ran_exact {p} {es} (others {t} {c} {m} {n} {x} r f) =
    let b = ran_exact r in
    record { size = b.size; exact = others_exact t (length es) x.i (status_of m p) (status_of n p) c f x.step b.exact }

-- the ticks of an exchange that ends
pub exchange-exact : {p : ℕ} {es : List Entry} {t : ℕ} {c : Tally} {m n : Memory} {x : Exchange} {yes? : Bool} → Ran p es t c m x
    → p < length m.status → MarksOther p x x.step → exchange_tick p m x x.step ≡ ends n yes?
    → TakesExactly (length es) (yes? ≡ true) (suc t) (plus c (tally_of p m x x.step))
exchange-exact {p} {es} {t} {c} {m} {n} {x} {yes?} r l o e =
    let b : ExactAfter (suc t) (plus c (tally_of p m x x.step)) (length es) p (exchange_tick p m x x.step) =
    tick-exact (ran_exact r) l o (outcome p m x) in
    rw e at b

-- and one that goes on has done fewer than 9k + 4
pub exchange-ends : {p : ℕ} {es : List Entry} {t : ℕ} {c : Tally} {m : Memory} {x : Exchange} → Ran p es t c m x → t < 9 * length es + 4
exchange-ends {p} {es} {t} {c} {m} {x} r = less x.step (ran_exact r).exact
  where
    k : ℕ
    k = length es

    between : {n : ℕ} → n ≤ 2 → Tallied n 0 0 t k x.i c → t < 9 * k + 4
    between l b = omega (arith, b.ticks, b.tried, b.words, b.stops, b.fetches, b.marks)

    entry : {n f g : ℕ} → n ≤ 5 → f ≤ 1 → g ≤ 1 → AtEntry n f g t k x.i c → t < 9 * k + 4
    entry l l' l'' b =
        let w = b.counted in omega (arith, w.ticks, w.tried, b.below, b.good.0, b.good.1, w.fetches, w.marks)

    cleaning : {n j : ℕ} {yes? : Bool} → n ≤ 4 + j → Cleaning n j t k x.i j yes? c → t < 9 * k + 4
    cleaning l b =
        let w = b.counted in omega (arith, w.ticks, w.tried, b.more, w.words, w.stops, w.fetches, w.marks)

    less : (s : Step) → Exact t k x.i (status_of m p) c s → t < 9 * k + 4
    less start h = omega (arith, h.0)
    less test h = between (omega arith) h.0
    less load h = entry (omega arith) (omega arith) (omega arith) h
    less look h = entry (omega arith) (omega arith) (omega arith) h
    less fetch h = entry (omega arith) (omega arith) (omega arith) h
    less (save v) h = entry (omega arith) (omega arith) (omega arith) h
    less fail h = between (omega arith) h
    less mark h = entry (omega arith) (omega arith) (omega arith) h
    less install h = entry (omega arith) (omega arith) (omega arith) h
    less commit h = between (omega arith) h.0
    less (clean j yes?) h = cleaning (omega arith) h
    less (clean_mark j yes?) h = cleaning (omega arith) h
