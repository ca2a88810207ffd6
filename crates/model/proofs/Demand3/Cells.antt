-- The exchange layer at a statement of the task that runs: the invariant stays, current values stay but for a Commit that says yes,
-- and so does what others have loaded.
use Prim.Native.Nat.{ℕ, ◌+◌, ◌<◌, ◌≤◌}
use mathlib.Core.Bool.{Bool, true, false, true≢false}
use mathlib.Core.Path.{◌≡◌, refl, sym, ◌∙◌, subst}
use mathlib.Core.Logic.{◌≢◌}
use mathlib.Core.List.{List, ◌∷◌}
use mathlib.Core.Option.{Option, none, some}
use native.Mathlib.Omega.{arith}
use lib.Dec.{eqb}
use lib.ListN.{length, length-map}
use Rattle.model.specs.Lists.{replace}
use Rattle.model.specs.Command.{SWAP, BodyCommand, outside}
use Rattle.model.specs.Word.{Word, Memory, status_of, set_status, current_of, Reading, loading, looking, fetching}
use Rattle.model.specs.Exchange.{Entry, Step, start, commit, Exchange, commit_by, clean_by, exchange_tick}
use Rattle.model.specs.Job.{between, first, copying, again, committing, Phase, idle, plain, exchanging, transacting, Task}
use Rattle.model.specs.Job.{reading as reading_phase}
use Rattle.model.specs.Transaction.{bank, block_of}
use Rattle.model.specs.Machine.{task_at}
use Rattle.model.proofs.Lists.{same?, test?, impossible}
use Rattle.model.proofs.Fit.Memory.{MemoryFit}
use Rattle.model.proofs.Fit.Exchange.{ExchangeFit, exchange-start}
use Rattle.model.proofs.Fit.Machine.{OutsideFit, PhaseFit}
use Rattle.model.proofs.Fit.Outside.{first_fits, some_pairs}
use Rattle.model.proofs.Exchanges.Act.{Act, free, act_of, memory_after, started?, Distinct}
use Rattle.model.proofs.Exchanges.Act.{exchanging as exchanging_act}
use Rattle.model.proofs.Exchanges.Invariant.{ValidOrHeld, Knows, Invariant, Order, Rank, itself, lower, Situation, Room}
use Rattle.model.proofs.Exchanges.Invariant.{idle as idle_rank}
use Rattle.model.proofs.Exchanges.Frame.{Frame, same, frame-none, frame-status, own-frame, current-frame}
use Rattle.model.proofs.Exchanges.Outcome.{outcome}
use Rattle.model.proofs.Exchanges.Kept.{exchange-moved}
use Rattle.model.proofs.Exchanges.Preserve.{stores-kept, free_kept, load_kept, reading-kept, exchange-kept}
use Rattle.model.proofs.Exchanges.Current.{start-current, current-kept, commit-all, commit-old, commit-new, commit_others}
use Rattle.model.proofs.Transactions.Given.{exchange_in, SaysYes, Cells, swapped, loaded_by, reading_in, SameContent, Given}
use Rattle.model.proofs.Transactions.Given.{same as same_cells}
use Rattle.model.proofs.Transactions.Statement.{JobFit}
use Rattle.model.proofs.History.Exchange.{says_yes, says-commit, says-not}
use Rattle.model.proofs.History.Moves.{given}
use Rattle.model.proofs.History.Linked.{InOperation, given_to}
use Rattle.model.proofs.Demand3.Acts.{read_act, act_in, task_act, acts_of, act-at, ExchangeIn, begins}
use Rattle.model.proofs.Demand3.Acts.{goes_on, commits, Touches, nothing, loads, looks, exchanges}

-- THE ORDER: `began r` is the tick in which the operation of task r began
abbrev pub below : (ℕ → ℕ) → ℕ → ℕ → Type 0
below began r q = began r < began q

pub by-beginning : (began : ℕ → ℕ) → Order (below began)
by-beginning began = record { irreflexive = λ p l. omega arith; transitive = λ p q r l k. omega arith }

-- a task does nothing to cells, or is inside an operation
act_inside? : {P : Type 0} (f : Phase) → (InOperation (given f) → P) → (act_in f ≡ free → P) → P
act_inside? idle f g = g refl
act_inside? plain f g = g refl
act_inside? (reading_phase r w s) f g = f tt
act_inside? (exchanging r x) f g = f tt
act_inside? (transacting x s) f g = f tt

loaded-inside : (f : Phase) {w : Word} → loaded_by (reading_in f) ≡ some w → InOperation (given f)
loaded-inside idle e = impossible (cc)
loaded-inside plain e = impossible (cc)
loaded-inside (reading_phase r w s) e = tt
loaded-inside (exchanging r x) e = tt
loaded-inside (transacting x s) e = tt

-- THE EXCHANGE AT WORK
pub record Work (x : Exchange) : Type 0 where
  pub low : ℕ
  pub high : ℕ
  pub pairs : List Entry
  pub fit : ExchangeFit low high pairs x
  pub most : high ≤ 48

-- task p runs on a well formed machine that has the invariant
pub record Ready (words blocks : ℕ) (began : ℕ → ℕ) (m : Memory) (ts : List Task) (p : ℕ) : Type 0 where
  pub few_words : words ≤ 32
  pub few_blocks : blocks ≤ 16
  pub memory : MemoryFit m
  pub size : length ts ≡ 8
  pub there : p < length ts
  -- of the tasks inside an operation it is the last to have begun
  pub last : (q : ℕ) → q ≢ p → InOperation (given_to ts q) → began q < began p
  pub job : JobFit words blocks (task_at ts p)
  pub invariant : Invariant (below began) m (acts_of ts)

module _ {words blocks : ℕ} {began : ℕ → ℕ} {m : Memory} {ts : List Task} {p : ℕ} (R : Ready words blocks began m ts p) where
  pub job_as : (g : Phase) → (task_at ts p).job.phase ≡ g
      → PhaseFit words blocks (task_at ts p).copies (task_at ts p).job.commands (task_at ts p).job.pairs g
  job_as g e = subst (λ (g : Phase). PhaseFit words blocks (task_at ts p).copies (task_at ts p).job.commands (task_at ts p).job.pairs g) e R.job

  work : {x : Exchange} → ExchangeIn (task_at ts p) x → Work x
  work (begins r l e k) =
      let o : OutsideFit words blocks (outside (SWAP r) ∷ l) (task_at ts p).job.pairs =
      subst (λ (z : List BodyCommand). OutsideFit words blocks z (task_at ts p).job.pairs) k (job_as plain e).outside in
      record {
        low = 0;
        high = words;
        pairs = (task_at ts p).job.pairs;
        fit = exchange-start (some_pairs (task_at ts p).job.pairs o.known.body o.waiting (first_fits o).fits.some) o.pairs;
        most = omega (arith, R.few_words);
      }
  work (goes_on r {x} e) =
      record { low = 0; high = words; pairs = (task_at ts p).job.pairs; fit = (job_as (exchanging r x) e).exchange; most = omega (arith, R.few_words) }
  work (commits y {x} e) =
      record { low = 32; high = 32 + blocks; pairs = _; fit = (job_as (transacting y (committing x)) e).inner.exchange; most = omega (arith, R.few_blocks) }

  pub room : {x : Exchange} → ExchangeIn (task_at ts p) x → Room m p x.entries
  room i =
      let w = work i in
      let g = R.memory in
      let l : p < 8 = omega (arith, R.there, R.size) in
      record {
        saves = omega (arith, g.saves);
        places = omega (arith, g.save p l, w.fit.entries.most);
        cells = λ e h. omega (arith, g.cells, w.fit.entries.below e h, w.most);
      }

  pub distinct : {x : Exchange} → ExchangeIn (task_at ts p) x → Distinct x.entries
  distinct i = (work i).fit.entries.different

  -- THE SITUATION of a statement
  rank : (q : ℕ) → Rank (below began) (acts_of ts) p q
  rank q = same? q p itself (λ ne. act_inside? (task_at ts q).job.phase (λ i. lower (R.last q ne i)) (λ e. idle_rank (act-at ts q ∙ e)))

  pub situation : {v : Act} → act_in (task_at ts p).job.phase ≡ v → Situation (below began) m (acts_of ts) p v
  situation e = record {
    order = by-beginning began;
    rank = rank;
    act = act-at ts p ∙ e;
    task = omega (arith, R.there, length-map ts task_act);
    sizes = R.memory.status ∙ sym (length-map ts task_act ∙ R.size);
    invariant = R.invariant;
  }

-- A COMMIT THAT SAYS YES
clean-memory : (b : Bool) (n : Memory) (x : Exchange) (yes? : Bool) → memory_after (clean_by b n x yes?) ≡ n
unfolding clean_by
clean-memory true n x yes? = refl
clean-memory false n x yes? = refl

commit-memory : (p : ℕ) (m : Memory) (x : Exchange) (b : Bool) → b ≡ true → memory_after (commit_by b p m x) ≡ set_status m p 2
unfolding commit_by
commit-memory p m x true e = clean-memory (eqb x.i 0) (set_status m p 2) x true
commit-memory p m x false e = absurd (true≢false (sym e))

yes-memory : (p : ℕ) (m : Memory) (x : Exchange) (s : Step) → says_yes p m s ≡ true → memory_after (exchange_tick p m x s) ≡ set_status m p 2
unfolding exchange_tick
yes-memory p m x s e = let c = says-commit p m s e in
    subst (λ (z : Step). says_yes p m z ≡ true → memory_after (exchange_tick p m x z) ≡ set_status m p 2) (sym c.0)
    (λ k. commit-memory p m x (eqb (status_of m p) 0) k) e

start-memory : (p : ℕ) (m : Memory) (x : Exchange) (s : Step) → s ≡ start → memory_after (exchange_tick p m x s) ≡ set_status m p 0
unfolding exchange_tick
start-memory p m x s e = subst (λ (z : Step). memory_after (exchange_tick p m x z) ≡ set_status m p 0) (sym e) refl

-- the act of a task in an exchange
pub exchange_act : (f : Phase) (x : Exchange) → exchange_in f ≡ some x → act_in f ≡ act_of x
exchange_act idle x e = impossible (cc)
exchange_act plain x e = impossible (cc)
exchange_act (reading_phase r w s) x e = impossible (cc)
exchange_act (exchanging r y) x e = let z : y ≡ x = cc in rw z
exchange_act (transacting y between) x e = impossible (cc)
exchange_act (transacting y (first a r)) x e = impossible (cc)
exchange_act (transacting y (copying a n)) x e = impossible (cc)
exchange_act (transacting y (again a v r)) x e = impossible (cc)
exchange_act (transacting y (committing c)) x e = let z : c ≡ x = cc in rw z

yes_act : {p : ℕ} {m : Memory} {f : Phase} {x : Exchange} → SaysYes p m f x → act_in f ≡ exchanging_act x
yes_act {f = f} {x} y = exchange_act f x y.exchange ∙ rw y.step

-- WHAT A READING HAS LOADED
module _ (of : ℕ → Type 0) (status : List ℕ) (saves : List (List ℕ)) (acts : List Act) (q : ℕ) where
  loaded-in : (c : ℕ) (r : Reading) (w : Word) → loaded_by r ≡ some w → Knows of status saves acts q (read_act c r) → (c : ℕ) × ValidOrHeld of acts c w
  loaded-in c loading w e k = impossible (cc)
  loaded-in c (looking v) w e k = let z : v ≡ w = cc in (c, rw z at k)
  loaded-in c (fetching v) w e k = let z : v ≡ w = cc in (c, rw z at k.0)

  nothing-loaded : {P : Type 0} {w : Word} → ◌≡◌ {A = Option Word} none (some w) → P
  nothing-loaded e = impossible (cc)

  loaded_content : (f : Phase) (w : Word) → loaded_by (reading_in f) ≡ some w → Knows of status saves acts q (act_in f)
      → (c : ℕ) × ValidOrHeld of acts c w
  loaded_content idle w e k = nothing-loaded e
  loaded_content plain w e k = nothing-loaded e
  loaded_content (reading_phase r c s) w e k = loaded-in c s w e k
  loaded_content (exchanging r x) w e k = nothing-loaded e
  loaded_content (transacting x between) w e k = nothing-loaded e
  loaded_content (transacting x (first a r)) w e k = loaded-in (bank (block_of a)) r w e k
  loaded_content (transacting x (copying a n)) w e k = nothing-loaded e
  loaded_content (transacting x (again a v r)) w e k = loaded-in (bank (block_of a)) r w e k
  loaded_content (transacting x (committing c)) w e k = nothing-loaded e

-- WHAT THE STATEMENT LEAVES
module _ {words blocks : ℕ} {began : ℕ → ℕ} {m : Memory} {ts : List Task} {p : ℕ} (R : Ready words blocks began m ts p) where
  pub invariant_after : {v v' : Act} {n : Memory} → act_in (task_at ts p).job.phase ≡ v → Touches p m (task_at ts p) v n v'
      → Invariant (below began) n (replace (acts_of ts) p v')
  invariant_after e (nothing s) = rw s.is (stores-kept s.stores (free_kept (situation R e) tt))
  invariant_after e (loads c) = load_kept (situation R e) tt c
  invariant_after e (looks c k q) = rw q (reading-kept c k (situation R e))
  invariant_after e (exchanges x i) = exchange-kept x (situation R e) (room R i) (λ s. distinct R i)

  frame-after : {v v' : Act} {n : Memory} → act_in (task_at ts p).job.phase ≡ v → Touches p m (task_at ts p) v n v' → Frame p m n
  frame-after e (nothing s) = rw s.is (record { status = λ q ne. same refl; saves = λ q k ne. refl })
  frame-after e (loads c) = frame-none p m
  frame-after e (looks c k q) = frame-none p m
  frame-after e (exchanges x i) = started? x
      (λ s. rw (start-memory p m x x.step s) (frame-status p m 0))
      (λ k. (exchange-moved (situation R (e ∙ k)) (room R i) (outcome p m x)).frame)

  -- no exchange is at work, or only begins
  quiet_cells : {n : Memory} {v : Act} → act_in (task_at ts p).job.phase ≡ v → ((x : Exchange) → v ≡ exchanging_act x → ⊥)
      → ((c : ℕ) → current_of n c ≡ current_of m c) → Cells p m (task_at ts p).job.phase n
  quiet_cells e ne h = same_cells (λ x y. ne x (sym e ∙ yes_act y)) h

  exchange-is : {x : Exchange} → ExchangeIn (task_at ts p) x → x.step ≡ commit → exchange_in (task_at ts p).job.phase ≡ some x
  exchange-is (begins q l e k) c = impossible (cc)
  exchange-is (goes_on q e) c = rw e
  exchange-is (commits y e) c = rw e

  exchange-cells : (x : Exchange) → ExchangeIn (task_at ts p) x → act_in (task_at ts p).job.phase ≡ exchanging_act x
      → Cells p m (task_at ts p).job.phase (memory_after (exchange_tick p m x x.step))
  exchange-cells x i e = test? (says_yes p m x.step)
      (λ t. let c = says-commit p m x.step t in
      swapped x (record { exchange = exchange-is i c.0; step = c.0; status = c.1 }) (commit-all (situation R e) c.0 c.1)
      (rw (yes-memory p m x x.step t) (record {
        old = commit-old (situation R e) c.0 c.1;
        new = commit-new (situation R e) c.0 c.1;
        others = commit_others (situation R e) c.0 c.1;
      })))
      (λ n. same_cells (λ y Y. let z : x ≡ y = cc (e, yes_act Y) in says-not p m x.step n (rw z Y.step) Y.status)
      (current-kept (situation R e) (room R i) (outcome p m x) (says-not p m x.step n)))

  cells-after : {v v' : Act} {n : Memory} → act_in (task_at ts p).job.phase ≡ v → Touches p m (task_at ts p) v n v'
      → Cells p m (task_at ts p).job.phase n
  cells-after e (nothing s) = quiet_cells e (λ x k. impossible (cc)) (λ c. rw s.is refl)
  cells-after e (loads c) = quiet_cells e (λ x k. impossible (cc)) (λ c. refl)
  cells-after e (looks c k q) = quiet_cells e (λ x k. impossible (cc)) (λ c. refl)
  cells-after e (exchanges x i) = started? x
      (λ s. let k : act_of x ≡ free = rw s in
      quiet_cells (e ∙ k) (λ y q. impossible (cc)) (λ c. rw (start-memory p m x x.step s) (start-current (situation R (e ∙ k)) tt c)))
      (λ k. exchange-cells x i (e ∙ k))

  readings_after : {n : Memory} → Frame p m n → (q : ℕ) → q ≢ p → (w : Word) → loaded_by (reading_in (task_at ts q).job.phase) ≡ some w
      → SameContent m n w
  readings_after {n} F q ne w e =
      let l = R.last q ne (loaded-inside (task_at ts q).job.phase e) in
      let k : Knows (λ z. below began z q) m.status m.saves (acts_of ts) q (act_in (task_at ts q).job.phase) =
      subst (λ (v : Act). Knows (λ z. below began z q) m.status m.saves (acts_of ts) q v) (act-at ts q) (R.invariant.knows q) in
      let c = loaded_content (λ z. below began z q) m.status m.saves (acts_of ts) q (task_at ts q).job.phase w e k in
      let other : (z : ℕ) → below began z q → z ≢ p = λ z b d. let x : began p < began q = rw d at b in omega arith in
      record { value = current-frame F other c.1; counts = own-frame F other c.1 }

  pub given-after : {v v' : Act} {n : Memory} → act_in (task_at ts p).job.phase ≡ v → Touches p m (task_at ts p) v n v' → Given p m ts n
  given-after e t = record { cells = cells-after e t; readings = readings_after (frame-after e t) }
