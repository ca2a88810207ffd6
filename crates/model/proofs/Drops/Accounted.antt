-- Every release is accounted for: it has started a job, it waits, it was dropped, or it is to come; in every tick, and after it.
use Prim.Native.Nat.{ℕ, zero, suc, ◌+◌, ◌<◌}
use mathlib.Core.Path.{◌≡◌, refl, sym, ◌∙◌, ap}
use mathlib.Core.Bool.{false}
use mathlib.Core.Logic.{◌⊎◌, inl, inr}
use mathlib.Core.List.{List, [], ◌∷◌, ◌++◌, map, map-append, append_assoc, append-nil}
use native.Mathlib.Omega.{arith}
use lib.Dec.{eqb}
use lib.ListN.{length}
use borrow.Author.Tests.{eq-eqb, ne_eqb}
use Rattle.model.specs.Lists.{In, replace}
use Rattle.model.specs.Command.{Release}
use Rattle.model.specs.Sheet.{Sheet}
use Rattle.model.specs.Job.{Task, started}
use Rattle.model.specs.Machine.{Machine, no_task, task_at, waiting_at, unfinished_at, starting}
use Rattle.model.specs.Machine.{Running, nobody, running, running_of, move, move_any, tick, enter}
use Rattle.model.specs.Start.{start_machine}
use Rattle.model.specs.Machine as M
use Rattle.model.specs.Machine.{Fate, started_job, neither}
use Rattle.model.specs.Arrivals.{waits?, started?, neither?, Arrival, arrival, seen_enter, with_fate}
use Rattle.model.specs.Rates.{one_if}
use Rattle.model.specs.Drops.{release_of, number, jobs_of}
use Rattle.model.proofs.Lists.{same?, replace-same, replace-other, at_default}
use Rattle.model.proofs.Fit.Elements.{replace-part}
use Rattle.model.proofs.Fit.Sheet.{SheetFit}
use Rattle.model.proofs.Fit.Machine.{Fit}
use Rattle.model.proofs.Fit.Enter.{Due, Entering, oldest, starts, waits, drops, notes, along_noted, entered}
use Rattle.model.proofs.Fit.Releases.{entering_fit, declared-release}
use Rattle.model.proofs.Fit.Running.{RunningFit, running_fit}
use Rattle.model.proofs.Fit.Tick.{turn_fit, tick_fit}
use Rattle.model.proofs.Fit.Start.{start_fit, start-counts, start-jobs}
use Rattle.model.proofs.History.Steps.{state_after, seen_after}
use Rattle.model.proofs.Drops.Fates.{append_is, append_number, append_not, first-releases, first-waits, others_wait, first-number, first-not}

-- what an observer has, beside the machine; all that have arrived are of ticks before n
pub record Accounted (s : Sheet) (n : ℕ) (m : Machine) (xs : List Arrival) : Type 0 where
  pub fit : Fit s m
  pub complete : map release_of xs ++ m.releases ≡ s.releases
  pub arrived : (r : Release) → In r (map release_of xs) → r.tick < n
  pub dropped : (p : ℕ) → (task_at m.tasks p).counts.dropped ≡ number neither? p xs
  pub started : (p : ℕ) → number started? p xs ≡ jobs_of (task_at m.tasks p)
  pub waiting : (p : ℕ) → with_fate waits? p xs ≡ waiting_at m.waiting p

-- A RELEASE ARRIVES
in_append : (r : Release) (l : List Release) (x : Release) → In r (l ++ (x ∷ [])) → In r l ⊎ (r ≡ x)
in_append r [] x (inr i) = elim i [ ]
in_append r [] x (inl e) = inr e
in_append r (y ∷ l) x (inl e) = inl (inl e)
in_append r (y ∷ l) x (inr i) = go (in_append r l x i)
  where
    go : In r l ⊎ (r ≡ x) → In r (y ∷ l) ⊎ (r ≡ x)
    go (inl i) = inl (inr i)
    go (inr e) = inr e

module _ {s : Sheet} {m : Machine} {xs : List Arrival} (a : Accounted s (suc m.now) m xs) {r : Release} {l : List Release} (d : Due m r l)
    (f : Fate) where
  abbrev seen : List Arrival
  seen = xs ++ (arrival r f ∷ [])

  seen_releases : map release_of seen ≡ map release_of xs ++ (r ∷ [])
  seen_releases = map-append release_of xs (arrival r f ∷ [])

  seen_complete : map release_of seen ++ l ≡ s.releases
  seen_complete =
      ap (λ (k : List Release). k ++ l) seen_releases
      ∙ append_assoc (map release_of xs) (r ∷ []) l
      ∙ ap (λ (k : List Release). map release_of xs ++ k) (sym d.next)
      ∙ a.complete

  seen_arrived : (x : Release) → In x (map release_of seen) → x.tick < suc m.now
  seen_arrived x i = go (in_append x (map release_of xs) r (rw seen_releases at i))
    where
      go : In x (map release_of xs) ⊎ (x ≡ r) → x.tick < suc m.now
      go (inl i) = a.arrived x i
      go (inr e) = rw (e, d.now) (omega arith)

-- a number that rises in task p
raised_at : (g : Task → ℕ) (ts : List Task) (p : ℕ) (t : Task) → p < length ts → g t ≡ suc (g (task_at ts p)) → (q : ℕ)
    → g (task_at (replace ts p t) q) ≡ g (task_at ts q) + one_if (eqb p q)
raised_at g ts p t h e q = same? q p
    (λ z. rw (z, replace-same no_task ts p t h, eq-eqb p p refl) (e ∙ omega arith))
    (λ d. rw (replace-other no_task ts p q t d, ne_eqb p q (λ z. d (sym z))) (omega arith))

-- ONE THING THAT COMES BEFORE A STATEMENT
module _ {s : Sheet} (c : SheetFit s) where
  starting-jobs : (m : Machine) (p : ℕ) → p < length m.tasks → unfinished_at m p ≡ false → (q : ℕ)
      → jobs_of (task_at (starting p m).tasks q) ≡ jobs_of (task_at m.tasks q) + one_if (eqb p q)
  starting-jobs m p h u = raised_at jobs_of m.tasks p (started (task_at m.tasks p)) h (rw u (omega arith))

  pub entering_accounted : (m n : Machine) (xs : List Arrival) (e : Entering m n) → Accounted s (suc m.now) m xs
      → Accounted s (suc n.now) n (notes e xs)
  entering_accounted m n xs (oldest p r l h u w) a =
      let t = m.now in
      let some : with_fate waits? p xs ≡ r ∷ l = a.waiting p ∙ w in
      record {
        fit = entering_fit c m n (oldest p r l h u w) a.fit;
        complete = ap (λ (k : List Release). k ++ m.releases) (first-releases p t xs) ∙ a.complete;
        arrived = λ x i. a.arrived x (rw (first-releases p t xs) at i);
        dropped = λ q.
            replace-part no_task (λ (t : Task). t.counts.dropped) m.tasks p _ refl q
            ∙ a.dropped q
            ∙ sym (first-not p t neither? refl q xs some refl);
        started = λ q.
            first-number p t started? refl q xs some refl
            ∙ ap (λ (n : ℕ). n + one_if (eqb p q)) (a.started q)
            ∙ sym (starting-jobs m p (omega (arith, a.fit.tasks)) u q);
        waiting = λ q. same? q p
            (λ z. rw z (first-waits p t xs some ∙ sym (replace-same [] m.waiting p l (omega (arith, a.fit.waiting.size)))))
            (λ d. others_wait p t q d xs ∙ a.waiting q ∙ sym (replace-other [] m.waiting p q l d));
      }
  entering_accounted m n xs (starts r l d u) a =
      let f = started_job m.now in
      let h = declared-release c a.fit d in
      record {
        fit = entering_fit c m n (starts r l d u) a.fit;
        complete = seen_complete a d f;
        arrived = seen_arrived a d f;
        dropped = λ q.
            replace-part no_task (λ (t : Task). t.counts.dropped) m.tasks r.task _ refl q
            ∙ a.dropped q
            ∙ sym (ap length (append_not neither? q xs r f refl));
        started = λ q.
            append_number started? q xs r f refl
            ∙ ap (λ (n : ℕ). n + one_if (eqb r.task q)) (a.started q)
            ∙ sym (starting-jobs m r.task (omega (arith, a.fit.tasks, c.bodies)) u q);
        waiting = λ q. append_not waits? q xs r f refl ∙ a.waiting q;
      }
  entering_accounted m n xs (waits r l d u k) a =
      let h = declared-release c a.fit d in
      let ws = waiting_at m.waiting r.task ++ (r ∷ []) in
      record {
        fit = entering_fit c m n (waits r l d u k) a.fit;
        complete = seen_complete a d M.waits;
        arrived = seen_arrived a d M.waits;
        dropped = λ q. a.dropped q ∙ sym (ap length (append_not neither? q xs r M.waits refl));
        started = λ q. ap length (append_not started? q xs r M.waits refl) ∙ a.started q;
        waiting = λ q. append_is waits? q xs r M.waits refl ∙ same? q r.task
            (λ z. rw (z, eq-eqb r.task r.task refl, replace-same [] m.waiting r.task ws (omega (arith, a.fit.waiting.size, c.bodies)))
            (ap (λ (l : List Release). l ++ (r ∷ [])) (a.waiting r.task)))
            (λ o. rw (ne_eqb r.task q (λ z. o (sym z)), replace-other [] m.waiting r.task q ws o)
            (append-nil (with_fate waits? q xs) ∙ a.waiting q));
      }
  entering_accounted m n xs (drops r l d u k) a =
      let h = declared-release c a.fit d in
      record {
        fit = entering_fit c m n (drops r l d u k) a.fit;
        complete = seen_complete a d neither;
        arrived = seen_arrived a d neither;
        dropped = λ q.
            raised_at (λ (t : Task). t.counts.dropped) m.tasks r.task _ (omega (arith, a.fit.tasks, c.bodies)) refl q
            ∙ ap (λ (n : ℕ). n + one_if (eqb r.task q)) (a.dropped q)
            ∙ sym (append_number neither? q xs r neither refl);
        started = λ q.
            ap length (append_not started? q xs r neither refl)
            ∙ a.started q
            ∙ sym (replace-part no_task jobs_of m.tasks r.task _ refl q);
        waiting = λ q. append_not waits? q xs r neither refl ∙ a.waiting q;
      }

  -- THE STATEMENT leaves drops, jobs and waiting ones
  move_accounted : {m : Machine} {xs : List Arrival} → Accounted s (suc m.now) m xs → (r : Running) → RunningFit m r → Fit s (move m r)
      → Accounted s (move m r).now (move m r) xs
  unfolding move
  move_accounted a nobody r f = record {
    fit = f;
    complete = a.complete;
    arrived = a.arrived;
    dropped = a.dropped;
    started = a.started;
    waiting = a.waiting;
  }
  move_accounted {m} a (running p) r f =
      let k = (turn_fit c a.fit p r.unfinished).counts in
      record {
        fit = f;
        complete = a.complete;
        arrived = a.arrived;
        dropped = λ q. replace-part no_task (λ (t : Task). t.counts.dropped) m.tasks p _ k.dropped q ∙ a.dropped q;
        started = λ q. a.started q ∙ sym (replace-part no_task jobs_of m.tasks p _ (k.jobs r.unfinished) q);
        waiting = a.waiting;
      }

  -- AFTER ANY NUMBER OF TICKS
  abbrev m₀ : Machine
  m₀ = start_machine s

  start_accounted : Accounted s 0 m₀ []
  unfolding start_machine with_fate
  start_accounted = record {
    fit = start_fit c;
    complete = refl;
    arrived = λ r i. absurd i;
    dropped = λ p. rw (start-counts s p) refl;
    started = λ p. sym (start-jobs s p);
    waiting = λ p. sym (at_default {A = List Release} [] 8 p);
  }

  pub still_accounted : {m : Machine} {xs : List Arrival} → Accounted s m.now m xs → Accounted s (suc m.now) m xs
  still_accounted a = record {
    fit = a.fit;
    complete = a.complete;
    arrived = λ r i. let h = a.arrived r i in omega arith;
    dropped = a.dropped;
    started = a.started;
    waiting = a.waiting;
  }

  tick_accounted : {m : Machine} {xs : List Arrival} → Accounted s m.now m xs → Accounted s (tick m).now (tick m) (seen_enter m xs)
  unfolding tick move_any
  tick_accounted {m} {xs} a =
      move_accounted (along_noted (λ m xs. Accounted s (suc m.now) m xs) entering_accounted (entered m xs) (still_accounted a))
      (running_of (enter m)) (running_fit (enter m)) (tick_fit c a.fit)

  pub seen_accounted : (t : ℕ) → Accounted s (state_after m₀ t).now (state_after m₀ t) (seen_after seen_enter [] m₀ t)
  unfolding state_after seen_after start_machine
  seen_accounted zero = start_accounted
  seen_accounted (suc t) = tick_accounted (seen_accounted t)
