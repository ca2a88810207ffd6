-- LOST ATTEMPTS: in every run of an accepted sheet each task's count is that of its operations, which lose an attempt in every tick in which
-- a transaction restarts, on a stale version or on a rejected commit, and in no other.
use Prim.Native.Nat.{ℕ, suc}
use mathlib.Core.Path.{◌≡◌, refl, sym, ◌∙◌, ap, fun_ext}
use mathlib.Core.Bool.{Bool, true, false, not, true≢false, false≢true}
use mathlib.Core.Logic.{◌⊎◌, inl, inr}
use mathlib.Core.List.{List}
use borrow.Author.Tests.{eqb-false, ne_eqb}
use Rattle.model.specs.Sheet.{Sheet, verdict, accepted}
use Rattle.model.specs.Command.{Access}
use Rattle.model.specs.Word.{Reading, Read, reads, gives, read_tick}
use Rattle.model.specs.Exchange.{Exchange, Exchanged, goes, ends, exchange_tick}
use Rattle.model.specs.Job.{Phase, idle, plain, reading, exchanging, transacting}
use Rattle.model.specs.Job.{Transaction, Inner, between, first, copying, again, committing}
use Rattle.model.specs.Transaction.{bank, block_of}
use Rattle.model.specs.Machine.{Machine, Running, nobody, running, running_of, run}
use Rattle.model.specs.Start.{start_machine}
use Rattle.model.specs.Rates.{in_tick, running_in, one_if, sum_before, second_reading}
use Rattle.model.specs.LostAttempts.{phase_at, restarts, Stale, Rejected, ticks_where, after_last, RunLostAttempts, LostAttempts}
use Rattle.model.proofs.Lists.{same?}
use Rattle.model.proofs.Fit.Sheet.{SheetFit}
use Rattle.model.proofs.Fit.Accepted.{accepted_fit}
use Rattle.model.proofs.Fit.Running.{running_foremost}
use Rattle.model.proofs.History.Steps.{arrived_at, Stopped, stopped}
use Rattle.model.proofs.History.Ticks.{now-is}
use Rattle.model.proofs.History.Start.{started}
use Rattle.model.proofs.Rates.Own.{run_alike, in-tick}
use Rattle.model.proofs.LostAttempts.Statement.{stale_by, rejected_by, inner_cause, cause_in}
use Rattle.model.proofs.LostAttempts.Run.{restarts_at, loses_at, idle-restarts, others_restart, own-restarts, Accounted, accounted}

module _ {s : Sheet} (c : SheetFit s) where
  abbrev m : Machine
  m = start_machine s

  -- the run itself has the same phases in each tick and after it
  same-restarts : (p u : ℕ) → restarts_at c p u ≡ restarts m p u
  same-restarts p u = rw ((in-tick m u).tasks, (run_alike m (suc u)).tasks) refl

  -- THE CAUSE
  abbrev cause_at : ℕ → ℕ → Bool
  cause_at p u = cause_in p (in_tick m u).memory (phase_at (in_tick m u) p)

  -- where task p runs
  module _ (p u : ℕ) (e : running_in m u ≡ running p) where
    restarts_caused : restarts m p u ≡ cause_at p u
    restarts_caused =
        let i = in-tick m u in
        let r = sym i.runs ∙ e in
        sym (same-restarts p u) ∙ own-restarts c u p r ∙ sym (rw (i.memory, i.tasks) (loses_at c u p (running_foremost r)).caused)

    -- by what the statement finds
    stale-given : (x : Transaction) (a : Access) (v : ℕ) (r : Reading) → phase_at (in_tick m u) p ≡ transacting x (again a v r) → (o : Read)
        → read_tick (in_tick m u).memory (bank (block_of a)) r ≡ o → stale_by x a o ≡ true → Stale m p u
    stale-given x a v r f (reads n) z h = absurd (false≢true h)
    stale-given x a v r f (gives w) z h = record {
      gives = record {
        reads =
            record { runs = e; transaction = x; inner = again a v r; phase = f; access = a; step = r; does = second_reading a v r };
        value = w;
        gives = z;
      };
      fetched = v;
      second = refl;
      stale = eqb-false _ _ (not-true _ h);
    }
      where
        not-true : (b : Bool) → not b ≡ true → b ≡ false
        not-true true k = absurd (false≢true k)
        not-true false k = refl

    rejected-given : (x : Transaction) (v : Exchange) → phase_at (in_tick m u) p ≡ transacting x (committing v) → (o : Exchanged)
        → exchange_tick p (in_tick m u).memory v v.step ≡ o → rejected_by o ≡ true → Rejected m p u
    rejected-given x v f (goes n y) z h = absurd (false≢true h)
    rejected-given x v f (ends n true) z h = absurd (false≢true h)
    rejected-given x v f (ends n false) z h = record {
      ends = record { does = record { runs = e; transaction = x; exchange = v; phase = f }; memory = n; yes? = false; ends = z };
      rejected = refl;
    }

    inner-given : (x : Transaction) (i : Inner) → phase_at (in_tick m u) p ≡ transacting x i → inner_cause p (in_tick m u).memory x i ≡ true
        → Stale m p u ⊎ Rejected m p u
    inner-given x between f h = absurd (false≢true h)
    inner-given x (first a r) f h = absurd (false≢true h)
    inner-given x (copying a n) f h = absurd (false≢true h)
    inner-given x (again a v r) f h = inl (stale-given x a v r f (read_tick (in_tick m u).memory (bank (block_of a)) r) refl h)
    inner-given x (committing v) f h = inr (rejected-given x v f (exchange_tick p (in_tick m u).memory v v.step) refl h)

    given : (f : Phase) → phase_at (in_tick m u) p ≡ f → cause_in p (in_tick m u).memory f ≡ true → Stale m p u ⊎ Rejected m p u
    given idle e h = absurd (false≢true h)
    given plain e h = absurd (false≢true h)
    given (reading r w n) e h = absurd (false≢true h)
    given (exchanging r x) e h = absurd (false≢true h)
    given (transacting x i) e h = inner-given x i e h

  -- nobody but the task that runs restarts
  runs-if : (p u : ℕ) → restarts m p u ≡ true → running_in m u ≡ running p
  runs-if p u h = (in-tick m u).runs ∙ go (running_of (arrived_at m u)) refl
    where
      go : (r : Running) → running_of (arrived_at m u) ≡ r → r ≡ running p
      go nobody e = absurd (true≢false (sym h ∙ sym (same-restarts p u) ∙ idle-restarts c u e p))
      go (running q) e = same? p q
          (λ z. ap running (sym z))
          (λ ne. absurd (true≢false (sym h ∙ sym (same-restarts p u) ∙ others_restart c u q e p ne)))

  cause : (p u : ℕ) → restarts m p u ≡ true → Stale m p u ⊎ Rejected m p u
  cause p u h = let e = runs-if p u h in given p u e (phase_at (in_tick m u) p) refl (sym (restarts_caused p u e) ∙ h)

  stale : (p u : ℕ) → Stale m p u → restarts m p u ≡ true
  stale p u k =
      let r = k.gives.reads in
      restarts_caused p u r.runs ∙ rw (r.phase, k.second, k.gives.gives, ne_eqb _ _ k.stale) refl

  rejected : (p u : ℕ) → Rejected m p u → restarts m p u ≡ true
  rejected p u k =
      let d = k.ends.does in
      restarts_caused p u d.runs ∙ rw (d.phase, k.ends.ends, k.rejected) refl

  -- THE RUN with its limit
  module _ (limit : ℕ) where
    abbrev stop : Stopped limit m
    stop = stopped limit m

    abbrev all : Accounted c stop.ticks
    all = accounted c stop.ticks

    same_test : (p : ℕ) → ◌≡◌ {A = ℕ → Bool} (λ u. restarts_at c p u) (λ u. restarts m p u)
    same_test p = fun_ext (same-restarts p)

    now : (run limit m).now ≡ stop.ticks
    now = ap (λ (n : Machine). n.now) stop.state ∙ now-is (started c) stop.ticks

    run-lost_attempts : RunLostAttempts limit m
    run-lost_attempts = record {
      history = λ p. rw (stop.state, stop.history) (all.counted p ∙ sym (all.history p));
      ticks = λ p.
          rw (now, stop.state)
          (all.counted p ∙ ap (λ (is? : ℕ → Bool). sum_before (λ u. one_if (is? u)) 0 stop.ticks) (same_test p));
      each = λ a o is.
          rw now
          (all.ticks.each a o (rw stop.history at is)
          ∙ ap (λ (is? : ℕ → Bool). ticks_where is? a (after_last o.last stop.ticks)) (same_test o.task));
      cause = cause;
      stale = stale;
      rejected = rejected;
    }

pub lost_attempts : (sheet : List ℕ) (limit : ℕ) → verdict sheet ≡ accepted → LostAttempts sheet limit
lost_attempts sheet limit e = run-lost_attempts (accepted_fit sheet e) limit
