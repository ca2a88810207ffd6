-- What the parts of the run's loops ensure makes a release or a tick of the flat machine, and the loop's rest the run's.
use Prim.Native.Nat.{ℕ, zero, suc, ◌+◌, ◌%◌, ◌<◌}
use mathlib.Core.Path.{◌≡◌, refl, sym, ap, ◌∙◌, subst}
use mathlib.Core.Bool.{Bool, true, false, false≢true, ◌&&◌, ◌||◌}
use mathlib.Core.List.{List, [], ◌∷◌, map}
use native.Mathlib.Omega.{arith}
use borrow.Author.Tests.{ne_eqb, ltb-true, ltb-false}
use lib.Dec.{ltb}
use Rattle.std.specs.Prelude.{Option, Some, None}
use lib.ListN.{length, get_or, set}
use lib.Seq.{get_or-set_same}
use Rattle.model.specs.Lists.{at, replace}
use Rattle.model.proofs.Lists.{at_map, map-replace}
use Rattle.model.specs.Command.{command_at}
use Rattle.commands.specs.declared.BodyCommand.{BodyCommand}
use Rattle.state.specs.State.{Shared, shared, Own, own, no_own, no_task}
use Rattle.state.specs.declared.memory.Memory.{Memory}
use Rattle.state.specs.declared.task.Task.{Task}
use Rattle.commands.specs.declared.BodyCommand.TheVariants as B
use Rattle.exchanges.specs.Places.{if, Noted, noted, Left, left}
use Rattle.jobs.specs.declared.Phase.{Phase}
use Rattle.jobs.specs.declared.Job.{Job}
use Rattle.statements.specs.Statements.{begin_tick, step_tick, starting?, line_of, statement}
use Rattle.arrivals.specs.Releases.{unfinished?, pending_at, coming_by, stops_by, until_of}
use Rattle.arrivals.specs.Releases.{dropped_by, waiting_by, begun_by, zeroed_by, started_by}
use Rattle.arrivals.specs.declared.releases.Pending.{Pending}
use Rattle.arrivals.specs.declared.releases.Coming.{Coming}
use Rattle.arrivals.specs.declared.releases.Coming.TheVariants.{Nothing, Later, Due}
use Rattle.machine.specs.Flat.{top_of, FlatMachine, flat, no_job, released, finished, tick_of, left_by, ready_by, ticked}
use Rattle.machine.specs.Flat.{coming_in, Ends, stopped, arrives, moves}

-- ONE RECORD OF ALL is replaced, and read
record_set : (ts : List Task) (i : ℕ) (t : Task) → map own (set ts i t) ≡ set (map own ts) i (own t)
unfolding replace
record_set ts i t = map-replace own ts i t

record_at : (ts : List Task) (i : ℕ) → get_or (map own ts) i no_own ≡ own (get_or ts i no_task)
unfolding at
record_at ts i = at_map own no_task ts i

-- and replaced again, by what was made of it
record_twice : (ts : List Task) (i : ℕ) (x z : Task) (f : Own → Own) → own z ≡ f (own (get_or (set ts i x) i no_task))
    → map own (set (set ts i x) i z) ≡ set (map own ts) i (f (own x))
record_twice [] i x z f e = refl
record_twice (t ∷ ts) zero x z f e = ap (λ (y : Own). y ∷ map own ts) e
record_twice (t ∷ ts) (suc i) x z f e = ap (λ (l : List Own). own t ∷ l) (record_twice ts i x z f e)

-- A RELEASE to task p: its job, and whether that is still at work
module _ (bounds : List ℕ) (m : Shared) (ts : List Task) (jobs : List Job) (n : ℕ) (ws : List ℕ)
    (y : Option ℕ) (r t task next p : ℕ) where
  abbrev found : Job
  found = get_or jobs p no_job

  abbrev works? : Bool
  works? = unfinished? found.phase

  pub release-turn : (x z : Task) {n' b line : ℕ} {j : Job}
      → p ≡ task % 8
      → b ≡ waiting_by works? (get_or ws p 0)
      → n' ≡ begun_by works? n p
      → own x ≡ dropped_by works? (get_or ws p 0) (own (get_or ts p no_task))
      → own z ≡ zeroed_by works? (own (get_or (set ts p x) p no_task))
      → line ≡ at 0 bounds p
      → j ≡ started_by works? found line
      → flat m (map own (set (set ts p x) p z)) (set jobs p j) n' (set ws p b) None next t
      ≡ released bounds (flat m (map own ts) jobs n ws y r t) task next
  unfolding released
  release-turn x z e1 e2 e3 e4 e5 e6 e7 =
      rw (e2, e3, e7, e6, record_twice ts p x z (zeroed_by works?) e5, e4, ← record_at ts p, e1)

-- A TICK
-- a statement, closed and counted
pub finished-tick : (end : ℕ) {s j : Job} {m : Shared} {x y : Own} {l : Left Job} → left s m x ≡ l → noted j y ≡ finished end x s
    → left j m y ≡ tick_of end l
finished-tick end {m = m} e f = rw (← e) (ap (λ (w : Noted Job). left w.next m w.task) f)

pub came : (end : ℕ) (x : Task) {j : Job} {a b : Memory} {k l : Left Job} → b ≡ a → left j (shared a) (own x) ≡ tick_of end k → k ≡ l
    → left j (shared b) (own x) ≡ tick_of end l
came end x e1 e2 e3 = rw (e1, ← e3) e2

-- the statement of a job that takes up its command, and of one inside a command
module _ (program : List BodyCommand) (m : Shared) (t : Own) (p : ℕ) (k : Job) where
  pub begin-statement : {n : ℕ} {c : BodyCommand} → starting? k.phase ≡ true → n ≡ line_of k.at → c ≡ get_or program n (B.Load 0 0)
      → begin_tick m t p k c ≡ statement program m t p k
  unfolding statement
  begin-statement e1 e2 e3 = rw (e1, e3, e2)

  pub step-statement : starting? k.phase ≡ false → step_tick m t p k k.phase ≡ statement program m t p k
  unfolding statement
  step-statement e = rw e

module _ (program : List BodyCommand) (bounds : List ℕ) (m : Shared) (ts : List Task) (jobs : List Job) (n : ℕ) (ws : List ℕ)
    (y : Option ℕ) (r t p : ℕ) where
  abbrev done : Left Job
  done = statement program m (own (get_or ts p no_task)) p (get_or jobs p no_job)

  abbrev after : Left Job → FlatMachine
  after l =
      flat l.memory (set (map own ts) p l.task) (set jobs p l.next) (left_by (unfinished? l.next.phase) n p) ws
      (ready_by (unfinished? l.next.phase) (get_or ws p 0) p y) r (t + 1)

  tick-turn : (x : Task) {end : ℕ} {m' : Shared} {j : Job}
      → (n ≡ 0 → ⊥) → p ≡ top_of 8 n → end ≡ at 0 bounds (p + 1)
      → left j m' (own x) ≡ tick_of end done
      → flat m' (map own (set ts p x)) (set jobs p j) (left_by (unfinished? j.phase) n p) ws
      (ready_by (unfinished? j.phase) (get_or ws p 0) p y) r (t + 1)
      ≡ ticked program bounds (flat m (map own ts) jobs n ws y r t)
  unfolding ticked
  tick-turn x {end = end} {m' = m'} {j = j} work top e1 e2 =
      rw (record_set ts p x) (ap after e2 ∙ is-ticked)
    where
      is-ticked : after (tick_of end done) ≡ ticked program bounds (flat m (map own ts) jobs n ws y r t)
      is-ticked = rw (ne_eqb n 0 work, ← top, record_at ts p, ← e1)

-- THE RUN'S STEPS, by the next release, decoded once
module _ (sheet : List ℕ) (program : List BodyCommand) (bounds : List ℕ) (limit : ℕ) (w : FlatMachine) (q : Option Pending)
    (here : q ≡ pending_at (command_at sheet w.place)) where
  abbrev coming : Coming
  coming = coming_by w.ready w.place q w.ticks

  comes : coming ≡ coming_in sheet w
  comes = ap (λ (z : Option Pending). coming_by w.ready w.place z w.ticks) here

  pub after-release : (v : FlatMachine) {c : Coming} (task next : ℕ) → w.ticks < limit → c ≡ coming → c ≡ Due task next
      → v ≡ released bounds w task next
      → (u : FlatMachine) → Ends sheet program bounds limit v u → Ends sheet program bounds limit w u
  after-release v task next lt e1 e2 e3 u r =
      arrives task next lt (sym comes ∙ sym e1 ∙ e2) (subst (λ (x : FlatMachine). Ends sheet program bounds limit x u) e3 r)

  pub after-tick : (v : FlatMachine) → w.ticks < limit → ((task next : ℕ) → coming ≡ Due task next → ⊥) → stops_by coming w.mask ≡ false
      → v ≡ ticked program bounds w
      → (u : FlatMachine) → Ends sheet program bounds limit v u → Ends sheet program bounds limit w u
  after-tick v lt other e1 e2 u r =
      moves lt (λ task next e. other task next (comes ∙ e)) (sym (ap (λ (x : Coming). stops_by x w.mask) comes) ∙ e1)
      (subst (λ (x : FlatMachine). Ends sheet program bounds limit x u) e2 r)

  pub after_stop : {c : Coming} → c ≡ coming → stops_by c w.mask ≡ true → Ends sheet program bounds limit w w
  after_stop e1 e2 = stopped (sym (ap (λ (x : Coming). stops_by x w.mask) (e1 ∙ comes)) ∙ e2)

-- WHILE ONE TASK RUNS
-- somebody has work
on_work : (c : Coming) (n : ℕ) → (n ≡ 0 → ⊥) → stops_by c n ≡ false
on_work Nothing n h = ne_eqb n 0 h
on_work Later n h = refl
on_work (Due task next) n h = refl

going : (u x : Bool) → (u && x) || u ≡ u
going true true = refl
going true false = refl
going false x = refl

module _ (limit t : ℕ) where
  pub until_limit : (q : Option Pending) → t < until_of q limit → t < limit
  until_limit (Some q) h = by (ltb q.tick limit) refl h
    where
      by : (less : Bool) → ltb q.tick limit ≡ less → t < (if less q.tick limit) → t < limit
      by true e h = omega (arith, ltb-true q.tick limit e)
      by false e h = h
  until_limit None h = h

  pub until_due : (q : Option Pending) {y : Option ℕ} (r : ℕ) → y ≡ None → t < until_of q limit → (task next : ℕ)
      → coming_by y r q t ≡ Due task next → ⊥
  until_due (Some q) r none h task next e =
      let less : t < q.tick = by (ltb q.tick limit) refl h in
      later (rw (none, ne_eqb q.tick t (λ e. omega arith)) at e)
    where
      by : (less : Bool) → ltb q.tick limit ≡ less → t < (if less q.tick limit) → t < q.tick
      by true e h = h
      by false e h = omega (arith, ltb-false q.tick limit e)

      later : Later ≡ Due task next → ⊥
      later e = cc
  until_due None r none h task next e = let no : Nothing ≡ Due task next = rw none at e in cc

-- where nothing is due, nobody's job has ended with a release waiting
pub none-ready : (y : Option ℕ) (r : ℕ) (q : Option Pending) (t : ℕ) → ((task next : ℕ) → coming_by y r q t ≡ Due task next → ⊥) → y ≡ None
none-ready (Some p) r q t h = absurd (h p r refl)
none-ready None r q t h = refl

both : (a b : Bool) → a && b ≡ true → b ≡ true
both true b e = e
both false b e = absurd (false≢true e)

-- what goes on, goes on before that tick
pub goes_before : (f : Phase) (t until : ℕ) {b : Bool} → b ≡ (unfinished? f && ltb t until) → b ≡ true → t < until
goes_before f t until e h = ltb-true t until (both (unfinished? f) (ltb t until) (sym e ∙ h))

-- one statement more
module _ (sheet : List ℕ) (program : List BodyCommand) (bounds : List ℕ) (limit : ℕ) (m : Shared) (ts : List Task) (jobs : List Job)
    (n : ℕ) (ws : List ℕ) (y : Option ℕ) (r t p : ℕ) (q : Option Pending) where
  pub stretch : (x : Task) (until : ℕ) {ts' : List Task} {jobs' : List Job} {end : ℕ} {m' : Shared} {j : Job} {b : Bool}
      → (n ≡ 0 → ⊥) → p ≡ top_of 8 n → p < length jobs → end ≡ at 0 bounds (p + 1)
      → t < limit → q ≡ pending_at (command_at sheet r) → ((task next : ℕ) → coming_by y r q t ≡ Due task next → ⊥)
      → ts' ≡ set ts p x → jobs' ≡ set jobs p j
      → left j m' (own x) ≡ tick_of end (statement program m (own (get_or ts p no_task)) p (get_or jobs p no_job))
      → b ≡ (unfinished? (get_or jobs' p no_job).phase && ltb (t + 1) until)
      → (u : FlatMachine)
      → Ends sheet program bounds limit
      (flat m' (map own ts') jobs' (left_by (b || unfinished? (get_or jobs' p no_job).phase) n p) ws
      (ready_by (b || unfinished? (get_or jobs' p no_job).phase) (get_or ws p 0) p y) r (t + 1)) u
      → Ends sheet program bounds limit (flat m (map own ts) jobs n ws y r t) u
  stretch x until {j = j} work top lt e1 more e2 due e3 e4 e5 e6 u e =
      after-tick sheet program bounds limit _ q e2 _ more due (on_work (coming_by y r q t) n work)
      (tick-turn program bounds m ts jobs n ws y r t p x work top e1 e5) u
      (rw (e6, e3, e4, get_or-set_same jobs p j no_job lt, going (unfinished? j.phase) (ltb (t + 1) until)) at e)
