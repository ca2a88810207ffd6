-- Every tick of an accepted sheet's run justifies what it settles.
use Prim.Native.Nat.{ℕ, suc, ◌<◌}
use mathlib.Core.Bool.{Bool, true, false}
use mathlib.Core.Path.{◌≡◌, refl, sym, ◌∙◌, ap, subst}
use mathlib.Core.Logic.{inl, inr}
use mathlib.Core.List.{List, [], ◌∷◌}
use mathlib.Core.Option.{none, some}
use native.Mathlib.Omega.{arith}
use lib.ListN.{length}
use Rattle.model.specs.Command.{access, COMMIT, BodyCommand, LOAD, ADD, outside, inside}
use Rattle.model.specs.Sheet.{Sheet}
use Rattle.model.specs.Word.{Memory, current_of, Reading, Read, reads, gives, read_tick}
use Rattle.model.specs.Exchange.{Step, start, Exchange, Exchanged, goes, ends, exchange_tick}
use Rattle.model.specs.Job.{Transaction, Inner, between, first, copying, again, committing, Phase, idle, plain, exchanging, transacting}
use Rattle.model.specs.Job.{reading as reading_phase}
use Rattle.model.specs.Transaction.{nothing?}
use Rattle.model.specs.Machine.{Machine, task_at, running, pair_of}
use Rattle.model.specs.Plain.{Contents, result, plainly}
use Rattle.model.specs.History.{Operation, History, operation_at, observed}
use Rattle.model.specs.Claim.{contents_of}
use Rattle.model.specs.Arguments.{transaction_of, swap_of, until_commit}
use Rattle.model.proofs.Lists.{impossible}
use Rattle.model.proofs.Fit.Sheet.{SheetFit}
use Rattle.model.proofs.Fit.Machine.{ExchangingFit}
use Rattle.model.proofs.Fit.Exchange.{entry_of, SamePairs}
use Rattle.model.proofs.Exchanges.Act.{started?}
use Rattle.model.proofs.Exchanges.Act.{exchanging as exchanging_act}
use Rattle.model.proofs.Exchanges.Ground.{differs, beaten, GroundsOf}
use Rattle.model.proofs.Transactions.Given.{exchange_in, SaysYes, Swapped, Cells, same, swapped}
use Rattle.model.proofs.Transactions.Machine.{statement_of}
use Rattle.model.proofs.Transactions.Replay.{blocks_stay, contents_stay, commit_replays, nothing_replays}
use Rattle.model.proofs.History.Exchange.{says_yes, says-commit, says-not, pairs_of}
use Rattle.model.proofs.History.Moves.{given, inner_committed, has_committed, read_settles, swap_settles}
use Rattle.model.proofs.History.Moves.{transaction_settles, command_settles, inner_settles, settling}
use Rattle.model.proofs.History.Noted.{latest_of}
use Rattle.model.proofs.History.Linked.{Open, OpenBy, InOperation, given_to}
use Rattle.model.proofs.History.Hit.{Hit}
use Rattle.model.proofs.History.Justified.{Stood, Ground, differed, hit, Justified}
use Rattle.model.proofs.Fit.Running.{Foremost}
use Rattle.model.proofs.History.Ticks.{MachineLinked, next-of}
use Rattle.model.proofs.Demand3.Acts.{act_in, goes_on}
use Rattle.model.proofs.Demand3.Cells.{job_as}
use Rattle.model.proofs.Demand3.Past.{knowledge, among-pairs}
use Rattle.model.proofs.Demand3.Grounds.{same-pairs, read_seen, no_seen}
use Rattle.model.proofs.Demand3.Swap.{word_at, swap_replays}
use Rattle.model.proofs.Demand3.Latest.{latest_operation}
use Rattle.model.proofs.Demand3.State.{Holds, ready, running-task}

-- `memories t` is the shared memory after t ticks
module _ {s : Sheet} (c : SheetFit s) (memories : ℕ → Memory) {m : Machine} {h : History} (linked : MachineLinked m h)
    (k : Holds s (λ t a. current_of (memories t) a) m.now m h) (p : ℕ) (r : Foremost m p)
    (before : memories m.now ≡ m.memory) (after : memories (suc m.now) ≡ (statement_of p m.memory m.tasks).memory) where
  abbrev contents : ℕ → Contents
  contents t = contents_of s (memories t)

  now : (a : ℕ) → current_of (memories m.now) a ≡ current_of m.memory a
  now a = rw before

  -- no Commit says yes
  stays : ((x : Exchange) → SaysYes p m.memory (task_at m.tasks p).job.phase x → ⊥) → contents m.now ≡ contents (suc m.now)
  stays f = rw (before, after) (sym (contents_stay s (running-task c linked k now p r) f))

  no_exchange : {f : Phase} → (task_at m.tasks p).job.phase ≡ f → exchange_in f ≡ none → (x : Exchange)
      → SaysYes p m.memory (task_at m.tasks p).job.phase x → ⊥
  no_exchange e z x y = impossible (cc (y.exchange, ap exchange_in e))

  -- READ
  module _ (q w : ℕ) (i : Reading) (e : (task_at m.tasks p).job.phase ≡ reading_phase q w i) where
    found : (v : ℕ) → read_tick m.memory w i ≡ gives v → Stood contents (latest_of h p) m.now w v
    found v z =
        let seen = read_seen (ready c linked k now p r) linked.linked (next-of linked p r) now k.past.past q w i v e z in
        let f = job_as (ready c linked k now p r) (reading_phase q w i) e in
        record {
          tick = seen.tick;
          from = rw (← (next-of linked p r).stays (rw e tt)) seen.from;
          to = omega (arith, seen.before);
          value = word_at s (memories seen.tick) w f.word ∙ seen.value;
        }

    read_justified : (o : Read) → read_tick m.memory w i ≡ o → Justified contents m.now p h (read_settles w o)
    read_justified (reads j) z = stays (no_exchange e refl)
    read_justified (gives v) z = record { still = stays (no_exchange e refl); found = found v z }

  -- SWAP
  module _ (q : ℕ) (x : Exchange) (e : (task_at m.tasks p).job.phase ≡ exchanging q x) where
    fit : ExchangingFit (length s.words) (length s.blocks) (task_at m.tasks p).job.commands (task_at m.tasks p).job.pairs q x
    fit = job_as (ready c linked k now p r) (exchanging q x) e

    swap-yes : says_yes p m.memory x.step ≡ true → plainly (swap_of (pairs_of x)) (contents m.now) ≡ result (contents (suc m.now)) (1 ∷ [])
    swap-yes y = rw (before, after) (go (running-task c linked k now p r).given.cells)
      where
        go : Cells p m.memory (task_at m.tasks p).job.phase (statement_of p m.memory m.tasks).memory
            → plainly (swap_of (pairs_of x)) (contents_of s m.memory) ≡ result (contents_of s (statement_of p m.memory m.tasks).memory) (1 ∷ [])
        go (same no-yes h) =
            let z = says-commit p m.memory x.step y in absurd (no-yes x (record { exchange = rw e; step = z.0; status = z.1 }))
        go (swapped z Y i X) =
            let w : z ≡ x = cc (Y.exchange, ap exchange_in e) in
            swap_replays s x.entries
            (subst (λ (b : Exchange). Swapped m.memory (statement_of p m.memory m.tasks).memory b.entries) w X)
            fit.exchange.entries.below fit.exchange.entries.different
            (blocks_stay s (running-task c linked k now p r) (λ Z. impossible (cc Z.phase)))

    not_yes : says_yes p m.memory x.step ≡ false → contents m.now ≡ contents (suc m.now)
    not_yes y = stays (λ z Y. let w : z ≡ x = cc (Y.exchange, ap exchange_in e) in says-not p m.memory x.step y (rw w at Y.step) Y.status)

    -- the exchange has started, or it would not end
    at-exchange : (o : Memory) → exchange_tick p m.memory x x.step ≡ ends o false → act_in (task_at m.tasks p).job.phase ≡ exchanging_act x
    unfolding exchange_tick
    at-exchange o z = rw e (started? x
        (λ st. let y : exchange_tick p m.memory x start ≡ ends o false = subst (λ (b : Step). exchange_tick p m.memory x b ≡ ends o false) st z in
        impossible (cc))
        (λ w. w))

    -- a hit that is known after the tick was there before it
    hit_before : {w : ℕ} → Hit (observed m (running p) h) p w → Hit h p w
    hit_before b =
        let t = next-of linked p r in
        let inside : InOperation (given_to m.tasks p) = rw e tt in
        let same-latest = t.stays inside in
        record {
          by = b.by;
          other = b.other;
          began =
              sym (t.else b.by (λ z. impossible (cc (b.began, t.none-begun inside, ap (operation_at (observed m (running p) h)) z)))
              (λ i z. omega (arith, b.after)))
              ∙ b.began;
          higher = b.higher;
          after = rw (← same-latest) b.after;
          pairs = b.pairs;
          is = b.is;
          changing = b.changing;
          changes = b.changes;
          on = b.on;
          differs = b.differs;
        }

    ground : (o : Memory) → exchange_tick p m.memory x x.step ≡ ends o false → Ground contents m.now p h (pairs_of x)
    ground o z =
        go (no_seen (ready c linked k now p r) linked.linked (next-of linked p r) now k.past.past x o (goes_on q e) (at-exchange o z) z)
      where
        pairs : SamePairs x.entries (k.past.pairs p)
        pairs = same-pairs (ready c linked k now p r) linked.linked (next-of linked p r) now k.past.past x (at-exchange o z)

        within : (i : ℕ) → i < length (k.past.pairs p) → i < length x.entries
        within i l = omega (arith, pairs.size)

        go : GroundsOf (knowledge (λ t a. current_of (memories t) a) (suc m.now) (observed m (running p) h) k.past.pairs) p
            → Ground contents m.now p h (pairs_of x)
        go (differs i v l seen ne) =
            let into = fit.exchange.entries.below i (within i l) in
            let value : current_of (memories seen.tick) (entry_of x.entries i).cell ≡ v = rw (pairs.cell i) seen.value in
            differed (pair_of (entry_of x.entries i)) (among-pairs x.entries i (within i l))
            (record {
              tick = seen.tick;
              from = rw (← (next-of linked p r).stays (rw e tt)) seen.from;
              to = omega (arith, seen.before);
              value = word_at s (memories seen.tick) (entry_of x.entries i).cell into ∙ value;
            })
            (rw (pairs.old i) ne)
        go (beaten i l (inl far)) = absurd (omega (arith, fit.exchange.entries.below i (within i l), pairs.cell i, c.words))
        go (beaten i l (inr b)) =
            hit (pair_of (entry_of x.entries i)) (among-pairs x.entries i (within i l)) (hit_before (rw (← pairs.cell i) at b))

    swap_justified : (y : Bool) → says_yes p m.memory x.step ≡ y → (o : Exchanged) → exchange_tick p m.memory x x.step ≡ o
        → Justified contents m.now p h (swap_settles y (pairs_of x) o)
    swap_justified true y o z = swap-yes y
    swap_justified false y (goes o x') z = not_yes y
    swap_justified false y (ends o true) z = not_yes y
    swap_justified false y (ends o false) z = record { still = not_yes y; ground = ground o z }

  -- TRANSACTIONS
  module _ (x : Transaction) (i : Inner) (e : (task_at m.tasks p).job.phase ≡ transacting x i) where
    opened : Open h p (transaction_of x.kept (until_commit x.commands)) (inner_committed i)
    opened = subst (λ (f : Phase). OpenBy h p (given f) (has_committed f)) e (linked.linked.opened p)

    -- the plain transaction, with what the latest operation of the task was given
    replayed : {d : Contents} → plainly (latest_operation h p).arguments (contents_of s m.memory) ≡ result d (latest_operation h p).answers
        → (o : Operation) → operation_at h (latest_of h p) ≡ some o
        → plainly (transaction_of x.kept (until_commit x.commands)) (contents_of s m.memory) ≡ result d o.answers
    replayed {d} z o is =
        let same_operation : opened.operation ≡ o = cc opened.is in
        let y : plainly o.arguments (contents_of s m.memory) ≡ result d o.answers = rw is at z in
        rw (← opened.arguments, same_operation) y

    not-committing : exchange_in (transacting x i) ≡ none → contents m.now ≡ contents (suc m.now)
    not-committing z = stays (no_exchange e z)

    quiet : i ≡ between → contents m.now ≡ contents (suc m.now)
    quiet b = not-committing (rw b)

    -- COMMIT, by: nothing was touched
    nothing_justified : i ≡ between → (l : List BodyCommand) → (task_at m.tasks p).job.commands ≡ inside COMMIT ∷ l → (n : Bool)
        → nothing? x.blocks ≡ n → Justified contents m.now p h (transaction_settles n x)
    nothing_justified b l z true n =
        λ o is. rw (← quiet b, before) (replayed (nothing_replays s (running-task c linked k now p r) x l (e ∙ ap (transacting x) b) z n) o is)
    nothing_justified b l z false n = quiet b

    command_justified : i ≡ between → (l : List BodyCommand) → (task_at m.tasks p).job.commands ≡ l
        → Justified contents m.now p h (command_settles x l)
    command_justified b [] z = quiet b
    command_justified b (inside COMMIT ∷ l) z = nothing_justified b l z (nothing? x.blocks) refl
    command_justified b (LOAD q v ∷ l) z = quiet b
    command_justified b (ADD q v ∷ l) z = quiet b
    command_justified b (inside (access a) ∷ l) z = quiet b
    command_justified b (outside c ∷ l) z = quiet b

    commit_justified : (y : Exchange) → i ≡ committing y → (b : Bool) → says_yes p m.memory y.step ≡ b
        → Justified contents m.now p h (transaction_settles b x)
    commit_justified y z true b = λ o is. rw (before, after) (replayed (commit_replays s (running-task c linked k now p r) (record {
      transaction = x;
      exchange = y;
      phase = e ∙ ap (transacting x) z;
      step = (says-commit p m.memory y.step b).0;
      status = (says-commit p m.memory y.step b).1;
    })) o is)
    commit_justified y z false b =
        stays (λ w Y. let u : w ≡ y = cc (Y.exchange, ap exchange_in (e ∙ ap (transacting x) z)) in
        says-not p m.memory y.step b (rw u at Y.step) Y.status)

  inner_justified : (x : Transaction) (i : Inner) → (task_at m.tasks p).job.phase ≡ transacting x i
      → Justified contents m.now p h (inner_settles p m.memory (task_at m.tasks p).job.commands x i)
  inner_justified x between e = command_justified x between e refl (task_at m.tasks p).job.commands refl
  inner_justified x (first a j) e = not-committing x (first a j) e refl
  inner_justified x (copying a j) e = not-committing x (copying a j) e refl
  inner_justified x (again a v j) e = not-committing x (again a v j) e refl
  inner_justified x (committing y) e = commit_justified x (committing y) e y refl (says_yes p m.memory y.step) refl

  phase_justified : (f : Phase) → (task_at m.tasks p).job.phase ≡ f
      → Justified contents m.now p h (settling p m.memory (task_at m.tasks p).job.commands f)
  unfolding settling
  phase_justified idle e = stays (no_exchange e refl)
  phase_justified plain e = stays (no_exchange e refl)
  phase_justified (reading_phase q w i) e = read_justified q w i e (read_tick m.memory w i) refl
  phase_justified (exchanging q x) e = swap_justified q x e (says_yes p m.memory x.step) refl (exchange_tick p m.memory x x.step) refl
  phase_justified (transacting x i) e = inner_justified x i e

  -- THE STATEMENT of the task that runs
  pub justified : Justified contents m.now p h (settling p m.memory (task_at m.tasks p).job.commands (task_at m.tasks p).job.phase)
  justified = phase_justified (task_at m.tasks p).job.phase refl
