-- The invariants of the exchange layer: contents, what each task knows, what stands. And the situation of a statement.
use Prim.Native.Nat.{ℕ, ◌<◌, ◌≤◌}
use mathlib.Core.Bool.{true, false, not}
use mathlib.Core.Path.{◌≡◌}
use mathlib.Core.Logic.{◌≢◌, ◌⊎◌}
use mathlib.Core.List.{List, []}
use lib.Dec.{eqb}
use lib.ListN.{length}
use Rattle.model.specs.Lists.{at}
use Rattle.model.specs.Word.{Word, Memory, cell_of, saved, own, current, Reading, loading, looking, fetching, fresh_word}
use Rattle.model.specs.Exchange.{Entry, entry, Step, start, test, load, look, fetch, fail, mark}
use Rattle.model.specs.Exchange.{install, commit, save, clean, clean_mark, Exchange, entry_at, installed}
use Rattle.model.proofs.Exchanges.Act.{Act, free, reading, exchanging, act_at, working, stage}
use Rattle.model.proofs.Exchanges.Act.{undecided, hopeful, uncleaned, covering, here, Distinct}

-- CONTENTS
-- the word stands in cell c for an uncleaned entry of its task's exchange
pub record Held (acts : List Act) (c : ℕ) (w : Word) : Type 0 where
  pub exchange : Exchange
  pub at-work : act_at acts w.task ≡ exchanging exchange
  pub low : uncleaned (stage exchange) ≤ w.count
  pub high : w.count < exchange.i
  pub cell : (entry_at exchange w.count).cell ≡ c
  pub is : w ≡ installed w.task (entry_at exchange w.count) w.count

-- a content of cell c: valid, or held by one of those tasks
pub data ValidOrHeld (of : ℕ → Type 0) (acts : List Act) (c : ℕ) (w : Word) : Type 0 where
  valid : w.valid ≡ true → ValidOrHeld of acts c w
  held : of w.task → Held acts c w → ValidOrHeld of acts c w

abbrev pub Anyone : ℕ → Type 0
Anyone r = Unit {0}

-- WHAT A TASK KNOWS. The parameter `of` is: the tasks below it.
-- an entry once looked at
pub record Loaded (of : ℕ → Type 0) (status : List ℕ) (acts : List Act) (n : Entry) : Type 0 where
  pub valid_or_held : ValidOrHeld of acts n.cell n.init
  pub looked : n.overlapped ≡ not (own status n.init)

-- entry e of task p once saved, the value found being the old one
pub record FoundOld (of : ℕ → Type 0) (status : List ℕ) (saves : List (List ℕ)) (acts : List Act) (p : ℕ) (n : Entry) (e : ℕ) : Type 0 where
  pub loaded : Loaded of status acts n
  pub was_old : current status saves n.init ≡ n.old
  pub kept-old : saved saves p e ≡ n.old

-- if the pair changes, the task whose content it replaces is marked
pub record Settled (of : ℕ → Type 0) (status : List ℕ) (saves : List (List ℕ)) (acts : List Act) (p : ℕ) (n : Entry) (e : ℕ) : Type 0 where
  pub found : FoundOld of status saves acts p n e
  pub marked : n.overlapped ≡ true → n.old ≢ n.new → at 0 status n.init.task ≡ 1

module _ (of : ℕ → Type 0) (status : List ℕ) (saves : List (List ℕ)) (acts : List Act) (p : ℕ) where
  abbrev pub AtStep : Exchange → Step → Type 0
  AtStep x start = ⊥
  AtStep x test = Unit {0}
  AtStep x load = Unit {0}
  AtStep x look = ValidOrHeld of acts (here x).cell (here x).init
  AtStep x fetch = Loaded of status acts (here x) × ((here x).overlapped ≡ true)
  AtStep x (save v) = Loaded of status acts (here x) × (v ≡ current status saves (here x).init)
  AtStep x fail = Unit {0}
  AtStep x mark = FoundOld of status saves acts p (here x) x.i × ((here x).overlapped ≡ true) × ((here x).old ≢ (here x).new)
  AtStep x install = Settled of status saves acts p (here x) x.i
  AtStep x commit = (x.i ≡ length x.entries) ⊎ (at 0 status p ≢ 0)
  AtStep x (clean j yes?) = (j < x.i) × (yes? ≡ eqb (at 0 status p) 2)
  AtStep x (clean_mark j yes?) = (j < x.i) × (yes? ≡ eqb (at 0 status p) 2) × ((entry_at x j).overlapped ≡ true)

  pub record InExchange (x : Exchange) : Type 0 where
    pub within : x.i ≤ length x.entries
    pub at_entry : stage x ≡ working → x.i < length x.entries
    pub distinct : Distinct x.entries
    pub settled : (e : ℕ) → covering (stage x) ≤ e → e < x.i → Settled of status saves acts p (entry_at x e) e
    pub not_yet : undecided (stage x) ≡ true → at 0 status p ≢ 2
    pub at-step : AtStep x x.step

  abbrev pub InReading : ℕ → Reading → Type 0
  InReading c loading = Unit {0}
  InReading c (looking w) = ValidOrHeld of acts c w
  InReading c (fetching w) = ValidOrHeld of acts c w × (own status w ≡ false)

  abbrev pub Knows : Act → Type 0
  Knows free = Unit {0}
  Knows (reading c r) = InReading c r
  Knows (exchanging x) = InExchange x

-- WHAT STANDS
-- the exchange has replaced that content, and will give it back or mark its task
pub record Covers (x : Exchange) (w : Word) : Type 0 where
  pub number : ℕ
  pub low : covering (stage x) ≤ number
  pub high : number < x.i
  pub overlapped : (entry_at x number).overlapped ≡ true
  pub init : (entry_at x number).init ≡ w

abbrev pub CoveredBy : Act → Word → Type 0
CoveredBy free w = ⊥
CoveredBy (reading c r) w = ⊥
CoveredBy (exchanging x) w = Covers x w

-- what task p has put into cell c stands there, or is covered by a task that p is below
pub data Stands (below : ℕ → ℕ → Type 0) (cells : List Word) (acts : List Act) (p c : ℕ) (w : Word) : Type 0 where
  stands : at (fresh_word 0) cells c ≡ w → Stands below cells acts p c w
  covered : (q : ℕ) → below p q → CoveredBy (act_at acts q) w → Stands below cells acts p c w

abbrev pub Standing : (ℕ → ℕ → Type 0) → List Word → List ℕ → List Act → ℕ → Act → Type 0
Standing below cells status acts p free = Unit {0}
Standing below cells status acts p (reading c r) = Unit {0}
Standing below cells status acts p (exchanging x) =
    hopeful (stage x) ≡ true → at 0 status p ≡ 0 → (e : ℕ) → e < x.i → Stands below cells acts p (entry_at x e).cell (installed p (entry_at x e) e)

-- `below p q`: the job of q runs before that of p
pub record Invariant (below : ℕ → ℕ → Type 0) (m : Memory) (acts : List Act) : Type 0 where
  pub contents : (c : ℕ) → ValidOrHeld Anyone acts c (cell_of m c)
  pub knows : (p : ℕ) → Knows (λ r. below r p) m.status m.saves acts p (act_at acts p)
  pub standing : (p : ℕ) → Standing below m.cells m.status acts p (act_at acts p)

-- THE SITUATION of a statement of task p, whose act is v
pub record Order (below : ℕ → ℕ → Type 0) : Type 0 where
  pub irreflexive : (p : ℕ) → below p p → ⊥
  pub transitive : (p q r : ℕ) → below p q → below q r → below p r

-- nobody runs before p
pub data Rank (below : ℕ → ℕ → Type 0) (acts : List Act) (p q : ℕ) : Type 0 where
  itself : q ≡ p → Rank below acts p q
  idle : act_at acts q ≡ free → Rank below acts p q
  lower : below q p → Rank below acts p q

pub record Situation (below : ℕ → ℕ → Type 0) (m : Memory) (acts : List Act) (p : ℕ) (v : Act) : Type 0 where
  pub order : Order below
  pub rank : (q : ℕ) → Rank below acts p q
  pub act : act_at acts p ≡ v
  pub task : p < length acts
  pub sizes : length m.status ≡ length acts
  pub invariant : Invariant below m acts

-- the exchange's cells are there, and a save place for each entry
pub record Room (m : Memory) (p : ℕ) (es : List Entry) : Type 0 where
  pub saves : p < length m.saves
  pub places : length es ≤ length (at [] m.saves p)
  pub cells : (e : ℕ) → e < length es → (at (entry 0 0 0) es e).cell < length m.cells
