-- What the exchange layer asks of a history, from the history of the run: the values seen since a task's operation began, and what has hit it.
use Prim.Native.Nat.{ℕ, zero, suc, ◌<◌, ◌≤◌}
use mathlib.Core.Bool.{Bool}
use mathlib.Core.Path.{◌≡◌, refl, sym, ◌∙◌, ap}
use mathlib.Core.Logic.{◌≢◌, ◌⊎◌, inl, inr}
use mathlib.Core.List.{List, [], ◌∷◌, map}
use mathlib.Core.Option.{Option, none, some}
use native.Mathlib.Omega.{arith}
use lib.ListN.{length}
use Rattle.model.specs.Lists.{at, In}
use Rattle.model.specs.Word.{Memory, current_of, Reading, loading, looking, fetching}
use Rattle.model.specs.Exchange.{Entry, Exchange}
use Rattle.model.specs.Job.{between, first, copying, again, committing, Phase, idle, plain, exchanging, transacting, Task}
use Rattle.model.specs.Job.{reading as reading_phase}
use Rattle.model.specs.Transaction.{bank, block_of}
use Rattle.model.specs.Machine.{task_at, pair_of}
use Rattle.model.specs.History.{History}
use Rattle.model.specs.Arguments.{Arguments, swap_of}
use Rattle.model.proofs.Lists.{same?, impossible}
use Rattle.model.proofs.Fit.Exchange.{entry_of, SamePairs}
use Rattle.model.proofs.Exchanges.Act.{free, act_at, act_of, started?}
use Rattle.model.proofs.Exchanges.Act.{exchanging as exchanging_act}
use Rattle.model.proofs.Exchanges.Ground.{Busy, Passes, SeesNow}
use Rattle.model.proofs.Exchanges.Ground.{Knowledge}
use Rattle.model.proofs.History.Exchange.{pairs_of}
use Rattle.model.proofs.History.Moves.{given}
use Rattle.model.proofs.History.Noted.{latest_of}
use Rattle.model.proofs.History.Linked.{Open, InOperation, given_to, Linked, Next}
use Rattle.model.proofs.History.Hit.{Hit, hit_kept, hit_lower, hit_by}
use Rattle.model.proofs.Demand3.Acts.{read_act, act_in, acts_of, act-at, ExchangeIn, begins, goes_on, commits}
use Rattle.model.proofs.Demand3.Cells.{below, Ready, job_as}

-- cell c had the value v at the beginning of a tick of task r's latest operation, u ticks being done
pub record Seen (values : ℕ → ℕ → ℕ) (u : ℕ) (h : History) (r c v : ℕ) : Type 0 where
  pub tick : ℕ
  pub from : latest_of h r ≤ tick
  pub before : tick < u
  pub value : values tick c ≡ v

-- bank words count as hit: a transaction's no is never an answer
abbrev pub HitOn : History → ℕ → ℕ → Type 0
HitOn h r c = (32 ≤ c) ⊎ Hit h r c

abbrev pub knowledge : (ℕ → ℕ → ℕ) → ℕ → History → (ℕ → List Entry) → Knowledge
knowledge values u h pairs = record { seen = Seen values u h; hit = HitOn h; pairs = pairs }

-- a task that does something to cells is inside an operation
inner-inside : (f : Phase) → act_in f ≢ free → InOperation (given f)
inner-inside idle ne = absurd (ne refl)
inner-inside plain ne = absurd (ne refl)
inner-inside (reading_phase r w s) ne = tt
inner-inside (exchanging r x) ne = tt
inner-inside (transacting x s) ne = tt

pub acts_inside : (ts : List Task) (r : ℕ) → act_at (acts_of ts) r ≢ free → InOperation (given_to ts r)
acts_inside ts r ne = inner-inside (task_at ts r).job.phase (λ e. ne (act-at ts r ∙ e))

busy_inside : (ts : List Task) (r : ℕ) → Busy (acts_of ts) r → InOperation (given_to ts r)
busy_inside ts r b = acts_inside ts r (λ e. impossible (cc b.act))

-- the pair of each entry is among the pairs
pub among-pairs : (es : List Entry) (e : ℕ) → e < length es → In (pair_of (entry_of es e)) (map pair_of es)
unfolding at
among-pairs [] e l = absurd (omega arith)
among-pairs (a ∷ es) zero l = inl refl
among-pairs (a ∷ es) (suc e) l = inr (among-pairs es e (omega arith))

-- THE EXCHANGE OF A BUSY TASK
read-not : (c : ℕ) (r : Reading) {x : Exchange} {P : Type 0} → read_act c r ≡ exchanging_act x → P
read-not c loading e = impossible (cc)
read-not c (looking w) e = impossible (cc)
read-not c (fetching w) e = impossible (cc)

act_is : {x : Exchange} (y : Exchange) → act_of y ≡ exchanging_act x → y ≡ x
act_is y e = started? y (λ s. let k : act_of y ≡ free = rw s in impossible (cc)) (λ k. cc)

pub at-work : (t : Task) (f : Phase) {x : Exchange} → t.job.phase ≡ f → act_in f ≡ exchanging_act x → ExchangeIn t x
at-work t idle k e = impossible (cc)
at-work t plain k e = impossible (cc)
at-work t (reading_phase r w s) k e = read-not w s e
at-work t (exchanging r y) k e = goes_on r (k ∙ ap (exchanging r) (act_is y e))
at-work t (transacting y between) k e = impossible (cc)
at-work t (transacting y (first a r)) k e = read-not (bank (block_of a)) r e
at-work t (transacting y (copying a n)) k e = impossible (cc)
at-work t (transacting y (again a v r)) k e = read-not (bank (block_of a)) r e
at-work t (transacting y (committing c)) k e = commits y (k ∙ ap (λ (z : Exchange). transacting y (committing z)) (act_is c e))

-- THE TICK IN WHICH A TASK'S OPERATION BEGAN; outside one it is this tick, in which the next would begin
abbrev began_by : Option Arguments → ℕ → ℕ → ℕ
began_by none u n = u
began_by (some a) u n = n

abbrev pub began_in : ℕ → List Task → History → ℕ → ℕ
began_in u ts h p = began_by (given_to ts p) u (latest_of h p)

began-by : (g : Option Arguments) (u n : ℕ) → InOperation g → began_by g u n ≡ n
began-by none u n i = absurd i
began-by (some a) u n i = refl

pub began-inside : (u : ℕ) (ts : List Task) (h : History) (p : ℕ) → InOperation (given_to ts p) → began_in u ts h p ≡ latest_of h p
began-inside u ts h p i = began-by (given_to ts p) u (latest_of h p) i

-- A TICK OF TASK p
module _ {u p words blocks : ℕ} {m : Memory} {ts : List Task} {h h' : History} {g' : Option Arguments} {yes? : Bool}
    (R : Ready words blocks (began_in u ts h) m ts p) (l : Linked u ts h) (n : Next u p h h' (given_to ts p) g' yes?) where
  latest-stays : (r : ℕ) → InOperation (given_to ts r) → latest_of h' r ≡ latest_of h r
  latest-stays r i = same? r p (λ e. rw e (n.stays (rw e at i))) (λ ne. n.other r ne)

  latest-now : latest_of h' p ≤ u
  latest-now = go n.own
    where
      go : (latest_of h' p ≡ latest_of h p) ⊎ (latest_of h' p ≡ u) → latest_of h' p ≤ u
      go (inl e) = omega (arith, l.past p)
      go (inr e) = omega arith

  -- an exchange of words hits the operations that began before it on the words that it changes; an exchange of bank words counts as a hit
  own_hit : {x : Exchange} {ps : List Entry} → ExchangeIn (task_at ts p) x → act_in (task_at ts p).job.phase ≡ exchanging_act x
      → SamePairs x.entries ps → (r e : ℕ) → InOperation (given_to ts r) → latest_of h r < latest_of h p → e < length ps
      → (entry_of ps e).old ≢ (entry_of ps e).new → HitOn h' r (entry_of ps e).cell
  own_hit {x} {ps} (begins q k e₀ c) a s r e i lt le ne = impossible (cc (rw e₀ at a))
  own_hit {x} {ps} (goes_on q k) a s r e i lt le ne =
      let o : Open h p (swap_of (pairs_of x)) _ = rw k at (l.opened p) in
      let in-x : e < length x.entries = omega (arith, s.size) in
      let up : InOperation (given_to ts p) = rw k tt in
      let d : (pair_of (entry_of x.entries e)).old ≢ (pair_of (entry_of x.entries e)).new = rw (s.old e, s.new e) ne in
      let b : Hit h r (entry_of x.entries e).cell = hit_by l r p lt i up o (pair_of (entry_of x.entries e)) (among-pairs x.entries e in-x) d in
      rw (← s.cell e) (inr (hit_kept n.advance (latest-stays r i) b))
  own_hit {x} {ps} (commits y k) a s r e i lt le ne =
      let in-x : e < length x.entries = omega (arith, s.size) in
      let w = job_as R (transacting y (committing x)) k in
      inl (omega (arith, w.inner.exchange.entries.from e in-x, s.cell e))

  -- the exchange that task p is in has the pairs that are known of it
  pub passes : {values : ℕ → ℕ → ℕ} {pairs pairs' : ℕ → List Entry}
      → ((x : Exchange) → act_in (task_at ts p).job.phase ≡ exchanging_act x → SamePairs x.entries (pairs p))
      → ((r : ℕ) → Busy (acts_of ts) r → pairs' r ≡ pairs r)
      → Passes (below (began_in u ts h)) (acts_of ts) p (knowledge values u h pairs) (knowledge values (suc u) h' pairs')
  passes {values} {pairs} {pairs'} same-pairs keep = record {
    seen = λ r c v ne k.
        record { tick = k.tick; from = rw (latest-stays r (acts_inside ts r ne)) k.from; before = omega (arith, k.before); value = k.value };
    hit = λ r c b k. hit_on r c (latest-stays r (busy_inside ts r b)) k;
    pairs = keep;
    down = λ r c b bp lt k. down r c b bp lt k;
    mine = λ r e b bp lt le ne.
        let a = sym (act-at ts p) ∙ bp.act in
        own_hit (at-work (task_at ts p) (task_at ts p).job.phase refl a) a (same-pairs bp.exchange a) r e (busy_inside ts r b) (later r b bp lt) le
        ne;
  }
    where
      later : (r : ℕ) → Busy (acts_of ts) r → Busy (acts_of ts) p → below (began_in u ts h) r p → latest_of h r < latest_of h p
      later r b bp lt = rw (began-inside u ts h r (busy_inside ts r b), began-inside u ts h p (busy_inside ts p bp)) at lt

      hit_on : (r c : ℕ) → latest_of h' r ≡ latest_of h r → HitOn h r c → HitOn h' r c
      hit_on r c e (inl k) = inl k
      hit_on r c e (inr k) = inr (hit_kept n.advance e k)

      down : (r c : ℕ) → Busy (acts_of ts) r → Busy (acts_of ts) p → below (began_in u ts h) r p → HitOn h p c → HitOn h' r c
      down r c b bp lt (inl k) = inl k
      down r c b bp lt (inr k) =
          inr (hit_kept n.advance (latest-stays r (busy_inside ts r b)) (hit_lower l r p (later r b bp lt) (busy_inside ts r b) (busy_inside ts p bp) c k))

  pub sees_now : {values : ℕ → ℕ → ℕ} (pairs : ℕ → List Entry) → ((c : ℕ) → values u c ≡ current_of m c)
      → SeesNow m p (knowledge values (suc u) h' pairs)
  sees_now pairs now = λ c. record { tick = u; from = latest-now; before = omega arith; value = now c }
