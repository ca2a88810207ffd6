-- In each tick as many arrivals of a task start a job as jobs of the task start in it: one or none.
use Prim.Native.Nat.{ℕ, zero, suc, ◌+◌, ◌<◌, ◌≤◌}
use mathlib.Core.Path.{◌≡◌, refl, sym, ◌∙◌, ap}
use mathlib.Core.Bool.{Bool, true, false, true≢false, not, ◌&&◌}
use mathlib.Core.Logic.{◌≢◌}
use mathlib.Core.List.{List, []}
use native.Mathlib.Omega.{arith}
use lib.Dec.{eqb, ltb}
use lib.ListN.{length}
use borrow.Author.Tests.{eq-eqb, ne_eqb, lt-ltb, le-ltb}
use Rattle.model.specs.Sheet.{Sheet}
use Rattle.model.specs.Machine.{Machine, unfinished_at, starting, enter}
use Rattle.model.specs.Start.{start_machine}
use Rattle.model.specs.Machine as M
use Rattle.model.specs.Machine.{started_job, neither}
use Rattle.model.specs.Arrivals.{started_in?, Arrival, seen_enter, with_fate}
use Rattle.model.specs.Rates.{one_if, only_if}
use Rattle.model.specs.Drops.{number}
use Rattle.model.proofs.Lists.{same?, test?}
use Rattle.model.proofs.Fit.Elements.{below?}
use Rattle.model.proofs.Fit.Sheet.{SheetFit}
use Rattle.model.proofs.Fit.Enter.{Entering, oldest, starts, waits, drops, notes, along_noted, entered}
use Rattle.model.proofs.Fit.Waiting.{started-same, started-other, dropped_any}
use Rattle.model.proofs.Fit.Releases.{declared-release}
use Rattle.model.proofs.History.Steps.{state_after, arrived_at, seen_after}
use Rattle.model.proofs.History.Ticks.{now-is}
use Rattle.model.proofs.History.Start.{started}
use Rattle.model.proofs.Drops.Fates.{append_number, append_not, first-number, first-not}
use Rattle.model.proofs.Drops.Accounted.{Accounted, entering_accounted, still_accounted, seen_accounted}

-- a job of task p starts between machine m and machine n
abbrev pub starts_between : Machine → Machine → ℕ → Bool
starts_between m n p = not (unfinished_at m p) && unfinished_at n p

-- IN A TICK that finds machine m₀ and the arrivals xs₀: of earlier ticks nothing changes, and in this one as many start as jobs have started since
record Since (s : Sheet) (m₀ : Machine) (xs₀ : List Arrival) (m : Machine) (xs : List Arrival) : Type 0 where
  accounted : Accounted s (suc m.now) m xs
  now : m.now ≡ m₀.now
  unfinished : (p : ℕ) → unfinished_at m₀ p ≡ true → unfinished_at m p ≡ true
  before : (p u : ℕ) → u ≢ m₀.now → number (started_in? u) p xs ≡ number (started_in? u) p xs₀
  here : (p : ℕ) → number (started_in? m₀.now) p xs ≡ one_if (starts_between m₀ m p)

module _ {s : Sheet} (c : SheetFit s) (m₀ : Machine) (xs₀ : List Arrival) where
  -- a job of task p starts
  module _ {m : Machine} {xs : List Arrival} (k : Since s m₀ xs₀ m xs) (p : ℕ) (lt : p < length m.tasks) (u : unfinished_at m p ≡ false) where
    starts_unfinished : (q : ℕ) → unfinished_at m₀ q ≡ true → unfinished_at (starting p m) q ≡ true
    starts_unfinished q e = same? q p (λ z. rw z (started-same m lt)) (λ d. started-other m d ∙ k.unfinished q e)

    starts_here : {n : ℕ} (q : ℕ) → n ≡ number (started_in? m₀.now) q xs + one_if (eqb p q) → n ≡ one_if (starts_between m₀ (starting p m) q)
    starts_here {n} q e = same? q p (λ z. here z) (λ d. other d)
      where
        none : unfinished_at m₀ p ≡ false
        none = test? (unfinished_at m₀ p) (λ b. absurd (true≢false (sym (k.unfinished p b) ∙ u))) (λ b. b)

        here : q ≡ p → n ≡ one_if (starts_between m₀ (starting p m) q)
        here z =
            let none_yet : number (started_in? m₀.now) p xs ≡ 0 = k.here p ∙ rw (none, u) refl in
            rw (z, none, started-same m lt) (e ∙ rw (z, none_yet, eq-eqb p p refl) refl)

        other : q ≢ p → n ≡ one_if (starts_between m₀ (starting p m) q)
        other d = e ∙ rw (ne_eqb p q (λ z. d (sym z)), k.here q, started-other m d) (omega arith)

  entering_since : (m n : Machine) (xs : List Arrival) (e : Entering m n) → Since s m₀ xs₀ m xs → Since s m₀ xs₀ n (notes e xs)
  entering_since m n xs (oldest p r l h u w) k =
      let a = k.accounted in
      let some = a.waiting p ∙ w in
      record {
        accounted = entering_accounted c m n xs (oldest p r l h u w) a;
        now = k.now;
        unfinished = starts_unfinished k p (omega (arith, a.fit.tasks)) u;
        before = λ q v d. first-not p m.now (started_in? v) refl q xs some (ne_eqb m.now v (λ z. d (sym z ∙ k.now))) ∙ k.before q v d;
        here = λ q. starts_here k p (omega (arith, a.fit.tasks)) u q
            (first-number p m.now (started_in? m₀.now) refl q xs some (eq-eqb m.now m₀.now k.now));
      }
  entering_since m n xs (starts r l d u) k =
      let a = k.accounted in
      let h = declared-release c a.fit d in
      record {
        accounted = entering_accounted c m n xs (starts r l d u) a;
        now = k.now;
        unfinished = starts_unfinished k r.task (omega (arith, a.fit.tasks, c.bodies)) u;
        before = λ q v o.
            ap length (append_not (started_in? v) q xs r (started_job m.now) (ne_eqb m.now v (λ z. o (sym z ∙ k.now)))) ∙ k.before q v o;
        here = λ q. starts_here k r.task (omega (arith, a.fit.tasks, c.bodies)) u q
            (append_number (started_in? m₀.now) q xs r (started_job m.now) (eq-eqb m.now m₀.now k.now));
      }
  entering_since m n xs (waits r l d u f) k = record {
    accounted = entering_accounted c m n xs (waits r l d u f) k.accounted;
    now = k.now;
    unfinished = k.unfinished;
    before = λ q v o. ap length (append_not (started_in? v) q xs r M.waits refl) ∙ k.before q v o;
    here = λ q. ap length (append_not (started_in? m₀.now) q xs r M.waits refl) ∙ k.here q;
  }
  entering_since m n xs (drops r l d u f) k = record {
    accounted = entering_accounted c m n xs (drops r l d u f) k.accounted;
    now = k.now;
    unfinished = λ q e. dropped_any m r.task q ∙ k.unfinished q e;
    before = λ q v o. ap length (append_not (started_in? v) q xs r neither refl) ∙ k.before q v o;
    here = λ q.
        ap length (append_not (started_in? m₀.now) q xs r neither refl)
        ∙ k.here q
        ∙ ap (λ (b : Bool). one_if (not (unfinished_at m₀ q) && b)) (sym (dropped_any m r.task q));
  }

  -- nothing has come yet
  none_yet : (b : Bool) → 0 ≡ one_if (not b && b)
  none_yet true = refl
  none_yet false = refl

  tick_since : Accounted s m₀.now m₀ xs₀ → ((p : ℕ) → number (started_in? m₀.now) p xs₀ ≡ 0) → Since s m₀ xs₀ (enter m₀) (seen_enter m₀ xs₀)
  tick_since a none = along_noted (Since s m₀ xs₀) entering_since (entered m₀ xs₀) (record {
    accounted = still_accounted c a;
    now = refl;
    unfinished = λ p e. e;
    before = λ p u d. refl;
    here = λ p. none p ∙ none_yet (unfinished_at m₀ p);
  })

-- AFTER t TICKS
module _ {s : Sheet} (c : SheetFit s) where
  abbrev m : Machine
  m = start_machine s

  -- how many jobs of task p start in tick u
  abbrev starts_in : ℕ → ℕ → ℕ
  starts_in p u = one_if (starts_between (state_after m u) (arrived_at m u) p)

  abbrev StartsSeen : ℕ → ℕ → ℕ → Type 0
  StartsSeen t p u = number (started_in? u) p (seen_after seen_enter [] m t) ≡ only_if (ltb u t) (starts_in p u)

  -- none in a tick that is not done
  none-later : (t p u : ℕ) → t ≤ u → StartsSeen t p u → number (started_in? u) p (seen_after seen_enter [] m t) ≡ 0
  none-later t p u h e = e ∙ rw (le-ltb u t h) refl

  -- tick t, all that comes before its statement having come
  since_tick : (t : ℕ) → ((p u : ℕ) → StartsSeen t p u)
      → Since s (state_after m t) (seen_after seen_enter [] m t) (arrived_at m t) (seen_after seen_enter [] m (suc t))
  unfolding seen_after arrived_at
  since_tick t seen =
      let now = now-is (started c) t in
      tick_since c (state_after m t) (seen_after seen_enter [] m t) (seen_accounted c t)
      (λ p. rw now (none-later t p t (omega arith) (seen p t)))

  next_starts : (t : ℕ) → ((p u : ℕ) → StartsSeen t p u) → (p u : ℕ) → StartsSeen (suc t) p u
  next_starts t seen p u =
      let now = now-is (started c) t in
      let k = since_tick t seen in
      same? u t
      (λ z. rw (z, lt-ltb t (suc t) (omega arith)) (rw now at (k.here p)))
      (λ d. k.before p u (λ e. d (e ∙ now)) ∙ seen p u ∙ ap (λ (b : Bool). only_if b (starts_in p u)) (earlier d))
    where
      earlier : u ≢ t → ltb u t ≡ ltb u (suc t)
      earlier d = below? u t
          (λ h. lt-ltb u t h ∙ sym (lt-ltb u (suc t) (omega arith)))
          (λ h. le-ltb u t h ∙ sym (le-ltb u (suc t) (past h)))
        where
          past : t ≤ u → suc t ≤ u
          past h = same? u t (λ e. absurd (d e)) (λ e. omega (arith, e))

  pub seen-starts : (t p u : ℕ) → StartsSeen t p u
  unfolding seen_after with_fate
  seen-starts zero p u = sym (rw (le-ltb u 0 (omega arith)) refl)
  seen-starts (suc t) p u = next_starts t (seen-starts t) p u
