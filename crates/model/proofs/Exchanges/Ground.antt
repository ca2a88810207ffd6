-- Grounds: what a task knows of the past, so that a no has its grounds. Whoever keeps a history says what was seen and hit; this layer only uses it.
use Prim.Native.Nat.{ℕ, ◌<◌, ◌≤◌}
use mathlib.Core.Bool.{true, false}
use mathlib.Core.Path.{◌≡◌}
use mathlib.Core.Logic.{◌≢◌}
use mathlib.Core.List.{List}
use lib.ListN.{length}
use Rattle.model.specs.Lists.{at}
use Rattle.model.specs.Word.{Word, Memory, current, current_of, Reading, loading, looking, fetching, fresh_word}
use Rattle.model.specs.Exchange.{Entry, Step, start, test, load, look, fetch, fail, mark, install}
use Rattle.model.specs.Exchange.{commit, save, clean, clean_mark, Exchange, entry_at, installed}
use Rattle.model.proofs.Fit.Exchange.{entry_of, SamePairs}
use Rattle.model.proofs.Exchanges.Act.{Act, free, reading, exchanging, act_at, stage, undecided, uncleaned, here}

-- Of the operation of task r:
-- seen r c v: cell c had the current value v at the beginning of one of its ticks;
-- hit r c: a task that r is below has begun, after it did, an exchange with a changing pair on cell c;
-- pairs r: the pairs of its exchange.
pub record Knowledge : Type 1 where
  pub seen : ℕ → ℕ → ℕ → Type 0
  pub hit : ℕ → ℕ → Type 0
  pub pairs : ℕ → List Entry

-- the grounds of a no: a value seen that is not the old one, or a hit
pub data Grounds (seen : ℕ → ℕ → Type 0) (hit : ℕ → Type 0) (es : List Entry) : Type 0 where
  differs : (e v : ℕ) → e < length es → seen (entry_of es e).cell v → v ≢ (entry_of es e).old → Grounds seen hit es
  beaten : (e : ℕ) → e < length es → hit (entry_of es e).cell → Grounds seen hit es

abbrev pub GroundsOf : Knowledge → ℕ → Type 0
GroundsOf H r = Grounds (H.seen r) (H.hit r) (H.pairs r)

-- an uncleaned entry of the exchange has replaced that content of cell c
pub record Replaces (x : Exchange) (c : ℕ) (w : Word) : Type 0 where
  pub number : ℕ
  pub low : uncleaned (stage x) ≤ number
  pub high : number < x.i
  pub cell : (entry_at x number).cell ≡ c
  pub init : (entry_at x number).init ≡ w

abbrev pub ReplacedBy : Act → ℕ → Word → Type 0
ReplacedBy free c w = ⊥
ReplacedBy (reading d r) c w = ⊥
ReplacedBy (exchanging x) c w = Replaces x c w

-- a content on which task r counts is in its cell, or was replaced by a task that r is below, or the cell was hit
pub data CountsOn (below : ℕ → ℕ → Type 0) (hit : ℕ → Type 0) (cells : List Word) (acts : List Act) (r c : ℕ) (w : Word) : Type 0 where
  there : at (fresh_word 0) cells c ≡ w → CountsOn below hit cells acts r c w
  replaced : (q : ℕ) → below r q → ReplacedBy (act_at acts q) c w → CountsOn below hit cells acts r c w
  was_hit : hit c → CountsOn below hit cells acts r c w

-- what a step knows, over what is counted on, seen and hit
module _ (counts : ℕ → Word → Type 0) (seen : ℕ → ℕ → Type 0) (hit : ℕ → Type 0) (grounds : Type 0) (status : List ℕ) (saves : List (List ℕ))
    (x : Exchange) where
  abbrev pub PastStep : Step → Type 0
  PastStep start = Unit {0}
  PastStep test = Unit {0}
  PastStep load = Unit {0}
  PastStep look = counts (here x).cell (here x).init × seen (here x).cell (current status saves (here x).init)
  PastStep fetch = counts (here x).cell (here x).init × seen (here x).cell (current status saves (here x).init)
  PastStep (save v) = counts (here x).cell (here x).init × seen (here x).cell v
  PastStep fail = grounds
  PastStep mark = counts (here x).cell (here x).init
  PastStep install = counts (here x).cell (here x).init
  PastStep commit = Unit {0}
  PastStep (clean j yes?) = yes? ≡ false → grounds
  PastStep (clean_mark j yes?) = (yes? ≡ false → grounds) × hit (entry_at x j).cell

module _ (below : ℕ → ℕ → Type 0) (H : Knowledge) (cells : List Word) (status : List ℕ) (saves : List (List ℕ)) (acts : List Act) (r : ℕ) where
  pub record PastExchange (x : Exchange) : Type 0 where
    pub pairs : SamePairs x.entries (H.pairs r)
    pub counts : (e : ℕ) → uncleaned (stage x) ≤ e → e < x.i
        → CountsOn below (H.hit r) cells acts r (entry_at x e).cell (installed r (entry_at x e) e)
    pub grounds : undecided (stage x) ≡ true → at 0 status r ≢ 0 → GroundsOf H r
    pub at-step : PastStep (CountsOn below (H.hit r) cells acts r) (H.seen r) (H.hit r) (GroundsOf H r) status saves x x.step

  abbrev pub PastReading : ℕ → Reading → Type 0
  PastReading c loading = Unit {0}
  PastReading c (looking w) = H.seen r c (current status saves w)
  PastReading c (fetching w) = H.seen r c (current status saves w)

  abbrev pub PastAct : Act → Type 0
  PastAct free = Unit {0}
  PastAct (reading c s) = PastReading c s
  PastAct (exchanging x) = PastExchange x

-- the grounds of all tasks
pub record Past (below : ℕ → ℕ → Type 0) (H : Knowledge) (m : Memory) (acts : List Act) : Type 0 where
  pub knows : (r : ℕ) → PastAct below H m.cells m.status m.saves acts r (act_at acts r)

-- WHAT IS ASKED OF A HISTORY
pub record Busy (acts : List Act) (r : ℕ) : Type 0 where
  pub exchange : Exchange
  pub act : act_at acts r ≡ exchanging exchange

-- the history before and after a tick of p. Of tasks that do nothing to cells nothing is asked.
pub record Passes (below : ℕ → ℕ → Type 0) (acts : List Act) (p : ℕ) (H H' : Knowledge) : Type 0 where
  pub seen : (r c v : ℕ) → act_at acts r ≢ free → H.seen r c v → H'.seen r c v
  pub hit : (r c : ℕ) → Busy acts r → H.hit r c → H'.hit r c
  pub pairs : (r : ℕ) → Busy acts r → H'.pairs r ≡ H.pairs r
  -- of two tasks in an operation the lower one began first: what hit p has hit it, and so has p's own exchange
  pub down : (r c : ℕ) → Busy acts r → Busy acts p → below r p → H.hit p c → H'.hit r c
  pub mine : (r e : ℕ) → Busy acts r → Busy acts p → below r p → e < length (H.pairs p) → (entry_of (H.pairs p) e).old ≢ (entry_of (H.pairs p) e).new
      → H'.hit r (entry_of (H.pairs p) e).cell

-- the memory being m at the beginning of the tick, p's operation sees it
abbrev pub SeesNow : Memory → ℕ → Knowledge → Type 0
SeesNow m p H' = (c : ℕ) → H'.seen p c (current_of m c)

pub past-at-first : {below : ℕ → ℕ → Type 0} {H : Knowledge} {m : Memory} (acts : List Act) → ((p : ℕ) → act_at acts p ≡ free) → Past below H m acts
past-at-first acts f = record { knows = λ r. rw (f r) tt }
