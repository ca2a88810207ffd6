-- What each task knows of the past stays true, the value that a READ gives was seen, and a SWAP that says no has its grounds.
use Prim.Native.Nat.{ℕ, suc}
use mathlib.Core.Bool.{Bool, true, false}
use mathlib.Core.Path.{◌≡◌, refl, ◌∙◌, ap, subst}
use mathlib.Core.List.{List}
use mathlib.Core.Option.{Option}
use lib.Dec.{eqb}
use borrow.Author.Tests.{eq-eqb, ne_eqb}
use Rattle.model.specs.Lists.{replace}
use Rattle.model.specs.Word.{Memory, current_of, Reading, loading, looking, fetching, gives, read_tick}
use Rattle.model.specs.Exchange.{Entry, Step, start, Exchange, ends, exchange_tick}
use Rattle.model.specs.Job.{Task}
use Rattle.model.specs.Job.{reading as reading_phase}
use Rattle.model.specs.Machine.{task_at}
use Rattle.model.specs.History.{History}
use Rattle.model.specs.Arguments.{Arguments}
use Rattle.model.proofs.Lists.{same?, impossible}
use Rattle.model.proofs.Fit.Exchange.{SamePairs, same_refl}
use Rattle.model.proofs.Exchanges.Act.{Act, free, act_at, act_by, act_of, act_after, memory_after, started?}
use Rattle.model.proofs.Exchanges.Act.{exchanging as exchanging_act}
use Rattle.model.proofs.Exchanges.Ground.{PastAct, PastExchange, Past, Busy, Passes, SeesNow, GroundsOf}
use Rattle.model.proofs.Exchanges.Grounded.{free_past, load_past, reading-past, reading-gives, exchange-past, no_has_grounds}
use Rattle.model.proofs.History.Linked.{given_to, Linked, Next}
use Rattle.model.proofs.Demand3.Acts.{act_in, acts_of, act-at, ExchangeIn, Touches, nothing, loads, looks, exchanges}
use Rattle.model.proofs.Demand3.Cells.{below, Ready, situation, room, distinct}
use Rattle.model.proofs.Demand3.Past.{Seen, knowledge, began_in, passes, sees_now}

-- the pairs of task p are these from now on
abbrev pairs_by : Bool → List Entry → List Entry → List Entry
pairs_by true es old = es
pairs_by false es old = old

abbrev pairs_with : ℕ → List Entry → (ℕ → List Entry) → ℕ → List Entry
pairs_with p es pairs r = pairs_by (eqb r p) es (pairs r)

pub record PastAfter (began : ℕ → ℕ) (values : ℕ → ℕ → ℕ) (u : ℕ) (h : History) (m : Memory) (acts : List Act) : Type 0 where
  pub pairs : ℕ → List Entry
  pub past : Past (below began) (knowledge values u h pairs) m acts

module _ {u p words blocks : ℕ} {m : Memory} {ts : List Task} {h h' : History} {g' : Option Arguments} {yes? : Bool} {values : ℕ → ℕ → ℕ}
    {pairs : ℕ → List Entry}
    (R : Ready words blocks (began_in u ts h) m ts p) (l : Linked u ts h) (n : Next u p h h' (given_to ts p) g' yes?)
    (now : (c : ℕ) → values u c ≡ current_of m c) (P : Past (below (began_in u ts h)) (knowledge values u h pairs) m (acts_of ts)) where
  pub same-pairs : (x : Exchange) → act_in (task_at ts p).job.phase ≡ exchanging_act x → SamePairs x.entries (pairs p)
  same-pairs x e =
      let k : PastExchange (below (began_in u ts h)) (knowledge values u h pairs) m.cells m.status m.saves (acts_of ts) p x = subst
      (λ (v : Act). PastAct (below (began_in u ts h)) (knowledge values u h pairs) m.cells m.status m.saves (acts_of ts) p v) (act-at ts p ∙ e)
      (P.knows p) in
      k.pairs

  T : Passes (below (began_in u ts h)) (acts_of ts) p (knowledge values u h pairs) (knowledge values (suc u) h' pairs)
  T = passes R l n same-pairs (λ q b. refl)

  sees : SeesNow m p (knowledge values (suc u) h' pairs)
  sees = sees_now R l n pairs now

  -- an exchange begins: its pairs are known from now on
  module _ (x : Exchange) (i : ExchangeIn (task_at ts p) x) (s : x.step ≡ start) (e : act_in (task_at ts p).job.phase ≡ act_of x) where
    others_keep : (q : ℕ) → Busy (acts_of ts) q → pairs_with p x.entries pairs q ≡ pairs q
    others_keep q b = same? q p
        (λ k. let a : act_in (task_at ts p).job.phase ≡ free = e ∙ rw s in impossible (cc (b.act, ap (act_at (acts_of ts)) k, act-at ts p)))
        (λ ne. rw (ne_eqb q p ne))

    start-passes :
        Passes (below (began_in u ts h)) (acts_of ts) p (knowledge values u h pairs) (knowledge values (suc u) h' (pairs_with p x.entries pairs))
    start-passes = passes R l n same-pairs others_keep

    start-past-after : Past (below (began_in u ts h)) (knowledge values (suc u) h' (pairs_with p x.entries pairs))
        (memory_after (exchange_tick p m x x.step)) (replace (acts_of ts) p (act_after (exchange_tick p m x x.step)))
    start-past-after =
        exchange-past start-passes (sees_now R l n (pairs_with p x.entries pairs) now) P x (situation R e) (room R i)
        (λ s. (distinct R i, rw (eq-eqb p p refl) (same_refl x.entries)))

  pub past_after : {v v' : Act} {m' : Memory} → act_in (task_at ts p).job.phase ≡ v → Touches p m (task_at ts p) v m' v'
      → PastAfter (began_in u ts h) values (suc u) h' m' (replace (acts_of ts) p v')
  past_after e (nothing s) = let k = free_past (situation R e) tt T P in record { pairs = pairs; past = rw s.is (record { knows = k.knows }) }
  past_after e (loads c) = record { pairs = pairs; past = load_past (situation R e) tt T P sees c }
  past_after e (looks c k q) = record { pairs = pairs; past = rw q (reading-past c T sees P k (situation R e)) }
  past_after e (exchanges x i) = started? x
      (λ s. record { pairs = pairs_with p x.entries pairs; past = start-past-after x i s e })
      (λ k.
      record { pairs = pairs; past = exchange-past T sees P x (situation R e) (room R i) (λ s. impossible (cc (k, ap (λ (z : Step). act_by z x) s))) })

  -- a READ gives a value that its word had
  pub read_seen : (q w : ℕ) (s : Reading) (v : ℕ) → (task_at ts p).job.phase ≡ reading_phase q w s → read_tick m w s ≡ gives v
      → Seen values (suc u) h' p w v
  unfolding read_tick
  read_seen q w loading v e k = impossible (cc)
  read_seen q w (looking c) v e k = reading-gives w T sees P (looking c) v (situation R (ap act_in e)) k
  read_seen q w (fetching c) v e k = reading-gives w T sees P (fetching c) v (situation R (ap act_in e)) k

  -- a SWAP that says no
  pub no_seen : (x : Exchange) (m' : Memory) → ExchangeIn (task_at ts p) x → act_in (task_at ts p).job.phase ≡ exchanging_act x
      → exchange_tick p m x x.step ≡ ends m' false → GroundsOf (knowledge values (suc u) h' pairs) p
  no_seen x m' i e k = no_has_grounds T sees P x m' (situation R e) (room R i) k
