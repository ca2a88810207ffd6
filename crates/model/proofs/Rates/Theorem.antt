-- The rates: in every run of an accepted sheet, with whatever limit, READs and exchanges take no more ticks of their own than they may, and a
-- finished exchange takes exactly as many as its steps tell.
use Prim.Native.Nat.{ℕ, suc, ◌<◌, ◌≤◌}
use mathlib.Core.Path.{◌≡◌, refl, sym, ◌∙◌, ap, subst, fun_ext}
use mathlib.Core.Bool.{true}
use mathlib.Core.List.{List, [], ◌∷◌}
use lib.ListN.{length}
use mathlib.Core.Option.{none, some}
use Rattle.model.specs.Sheet.{Sheet, sheet_of, accepted, verdict}
use Rattle.model.specs.Word.{loading}
use Rattle.model.specs.Machine.{task_at, Running, run}
use Rattle.model.specs.Start.{start_machine}
use Rattle.model.specs.History.{Operation}
use Rattle.model.specs.Rates.{most_read, most_exchange, in_tick, running_in, own_before, own_ticks, Committing, Starts, Ends}
use Rattle.model.specs.Rates.{ReadsBank, Loads, Gives, IsAt, NoneIn, ReadTakes, own_at_end, Rates}
use Rattle.model.specs.Arguments.{Arguments, Pair, swap_of}
use Rattle.model.specs.ExactTicks.{Tally, step_tally, tally_before, tallies, TakesExactly, ExactTicks}
use Rattle.model.proofs.Fit.Sheet.{SheetFit}
use Rattle.model.proofs.Fit.Accepted.{accepted_fit}
use Rattle.model.proofs.History.Steps.{state_after, arrived_at, stopped}
use Rattle.model.proofs.History.Ticks.{now-is}
use Rattle.model.proofs.History.Start.{started}
use Rattle.model.proofs.Rates.Own.{in-tick}
use Rattle.model.proofs.Rates.Timely.{Rate, Fewer, timely_fewer}
use Rattle.model.proofs.Rates.Run.{who, what, rated}
use Rattle.model.proofs.Rates.Used.{ticks-used}
use Rattle.model.proofs.Rates.Bank.{BankStepIn, Giving, bank_rate, bank_fewer}
use Rattle.model.proofs.Rates.Commit.{InCommit, Ending, commit-exact, commit_fewer}

module _ {s : Sheet} (c : SheetFit s) where
  same_runs : (u : ℕ) → running_in (start_machine s) u ≡ who c u
  same_runs u = (in-tick (start_machine s) u).runs

  same-own : (p a n : ℕ) → own_before (running_in (start_machine s)) p a n ≡ own_before (who c) p a n
  same-own p a n = ap (λ (w : ℕ → Running). own_before w p a n) (fun_ext same_runs)

  same_step : (p u : ℕ) → step_tally (in_tick (start_machine s) u) p ≡ what c p u
  same_step p u = let i = in-tick (start_machine s) u in rw (i.runs, i.memory, i.tasks) refl

  same-done : (p a n : ℕ) → tally_before (λ u. step_tally (in_tick (start_machine s) u) p) a n ≡ tally_before (what c p) a n
  same-done p a n = ap (λ (w : ℕ → Tally). tally_before w a n) (fun_ext (same_step p))

  -- what the T line says
  used : (limit p : ℕ) → (task_at (run limit (start_machine s)).tasks p).counts.ticks ≡ own_at_end limit (start_machine s) p 0
  used limit p =
      let r = stopped limit (start_machine s) in
      rw (r.state, now-is (started c) r.ticks, same-own p 0 r.ticks) (ticks-used c r.ticks p)

  -- an operation that has ended
  operation_rate : (limit a l : ℕ) (o : Operation) → IsAt limit (start_machine s) a o → o.last ≡ some l
      → Rate o.arguments o.answers (own_ticks (start_machine s) o.task a l) (tallies (start_machine s) o.task a l)
  operation_rate limit a l o is e =
      let r = stopped limit (start_machine s) in
      rw (same-own o.task a (suc l), same-done o.task a (suc l)) ((rated c r.ticks).ended.ended a l o (rw r.history at is) e)

  -- one that has not ended
  operation_fewer : (limit a : ℕ) (o : Operation) → IsAt limit (start_machine s) a o → o.last ≡ none
      → Fewer o.arguments (own_at_end limit (start_machine s) o.task a)
  operation_fewer limit a o is e =
      let r = stopped limit (start_machine s) in
      let k = rated c r.ticks in
      let stands = k.unended.stands a o (rw r.history at is) e in
      rw (r.state, now-is (started c) r.ticks, same-own o.task a r.ticks, ← stands.latest)
      (timely_fewer _ _ o.task _ (task_at (state_after (start_machine s) r.ticks).tasks o.task).job.phase o.arguments stands.arguments
      (k.timely o.task))

  -- the reading of a bank word
  reading-in : {p u : ℕ} (d : ReadsBank (start_machine s) p u) → BankStepIn (arrived_at (start_machine s) u) p d.access d.step
  reading-in {p} {u} d =
      let e = (in-tick (start_machine s) u).tasks in
      record { transaction = d.transaction; inner = d.inner; phase = rw e at d.phase; does = rw e at d.does }

  giving : {p u : ℕ} → Gives (start_machine s) p u → Giving p (arrived_at (start_machine s) u)
  giving {p} {u} k = record {
    runs = sym (same_runs u) ∙ k.reads.runs;
    access = k.reads.access;
    step = k.reads.step;
    inside = reading-in k.reads;
    value = k.value;
    gives = rw (in-tick (start_machine s) u).memory at k.gives;
  }

  gives_at : {p u : ℕ} → Giving p (arrived_at (start_machine s) u) → Gives (start_machine s) p u
  gives_at {p} {u} k =
      let e = (in-tick (start_machine s) u).tasks in
      record {
        reads = record {
          runs = same_runs u ∙ k.runs;
          transaction = k.inside.transaction;
          inner = k.inside.inner;
          phase = rw e k.inside.phase;
          access = k.access;
          step = k.step;
          does = rw e k.inside.does;
        };
        value = k.value;
        gives = rw (in-tick (start_machine s) u).memory k.gives;
      }

  module _ (p a : ℕ) (load : Loads (start_machine s) p a) where
    loading_in : BankStepIn (arrived_at (start_machine s) a) p load.reads.access loading
    loading_in = rw load.loads at (reading-in load.reads)

    ungiven : (n : ℕ) → NoneIn (Gives (start_machine s) p) a n → (u : ℕ) → a ≤ u → u < n → Giving p (arrived_at (start_machine s) u) → ⊥
    ungiven n since u h b g = since u h b (gives_at g)

    bank_in_time : (l : ℕ) → a ≤ l → Gives (start_machine s) p l → NoneIn (Gives (start_machine s) p) a l
        → ReadTakes (own_ticks (start_machine s) p a l)
    bank_in_time l h last since =
        rw (same-own p a (suc l))
        (bank_rate c p a (sym (same_runs a) ∙ load.reads.runs) loading_in l h (giving last) (ungiven l since))

    bank_in_fewer : (n : ℕ) → a < n → NoneIn (Gives (start_machine s) p) a n → own_before (running_in (start_machine s)) p a n < most_read
    bank_in_fewer n h since = rw (same-own p a n) (bank_fewer c p a (sym (same_runs a) ∙ load.reads.runs) loading_in n h (ungiven n since))

  -- the exchange of a COMMIT
  committing_in : {p u : ℕ} (d : Committing (start_machine s) p u) → InCommit (arrived_at (start_machine s) u) p d.exchange
  committing_in {p} {u} d = record { transaction = d.transaction; phase = rw (in-tick (start_machine s) u).tasks at d.phase }

  ending : {p u : ℕ} → Ends (start_machine s) p u → Ending p (arrived_at (start_machine s) u)
  ending {p} {u} k = record {
    runs = sym (same_runs u) ∙ k.does.runs;
    exchange = k.does.exchange;
    inside = committing_in k.does;
    memory = k.memory;
    yes? = k.yes?;
    ends = rw (in-tick (start_machine s) u).memory at k.ends;
  }

  ends_at : {p u : ℕ} → Ending p (arrived_at (start_machine s) u) → Ends (start_machine s) p u
  ends_at {p} {u} k = record {
    does = record {
      runs = same_runs u ∙ k.runs;
      transaction = k.inside.transaction;
      exchange = k.exchange;
      phase = rw (in-tick (start_machine s) u).tasks k.inside.phase;
    };
    memory = k.memory;
    yes? = k.yes?;
    ends = rw (in-tick (start_machine s) u).memory k.ends;
  }

  module _ (p a k : ℕ) (first : Starts (start_machine s) p a k) where
    unended : (n : ℕ) → NoneIn (Ends (start_machine s) p) a n → (u : ℕ) → a ≤ u → u < n → Ending p (arrived_at (start_machine s) u) → ⊥
    unended n since u h b e = since u h b (ends_at e)

    exchange-exactly : (l : ℕ) → a ≤ l → (last : Ends (start_machine s) p l) → NoneIn (Ends (start_machine s) p) a l
        → TakesExactly k (last.yes? ≡ true) (own_ticks (start_machine s) p a l) (tallies (start_machine s) p a l)
    unfolding ending
    exchange-exactly l h last since =
        rw (same-own p a (suc l), same-done p a (suc l), ← first.entries)
        (commit-exact c p a (sym (same_runs a) ∙ first.does.runs) (committing_in first.does) first.start l h (ending last) (unended l since))

    exchange_fewer : (n : ℕ) → a < n → NoneIn (Ends (start_machine s) p) a n → own_before (running_in (start_machine s)) p a n < most_exchange k
    exchange_fewer n h since =
        rw (same-own p a n, ← first.entries)
        (commit_fewer c p a (sym (same_runs a) ∙ first.does.runs) (committing_in first.does) first.start n h (unended n since))

-- THE EXACT TICKS of a SWAP
swap-exactly : (sheet : List ℕ) (limit : ℕ) → verdict sheet ≡ accepted → (a l : ℕ) (ps : List Pair) (o : Operation)
    → IsAt limit (start_machine (sheet_of sheet)) a o → o.arguments ≡ swap_of ps → o.last ≡ some l
    → TakesExactly (length ps) (o.answers ≡ 1 ∷ []) (own_ticks (start_machine (sheet_of sheet)) o.task a l)
    (tallies (start_machine (sheet_of sheet)) o.task a l)
swap-exactly sheet limit e a l ps o is g z =
    subst (λ (args : Arguments). Rate args o.answers (own_ticks (start_machine (sheet_of sheet)) o.task a l)
    (tallies (start_machine (sheet_of sheet)) o.task a l)) g
    (operation_rate (accepted_fit sheet e) limit a l o is z)

pub exact-ticks : (sheet : List ℕ) (limit : ℕ) → verdict sheet ≡ accepted → ExactTicks sheet limit
exact-ticks sheet limit e =
    record {
      swap = swap-exactly sheet limit e;
      commit = λ p a l k done first h last since. exchange-exactly (accepted_fit sheet e) p a k first l h last since;
    }

-- THE RATES
pub rates : (sheet : List ℕ) (limit : ℕ) → verdict sheet ≡ accepted → Rates sheet limit
rates sheet limit e =
    let c = accepted_fit sheet e in
    record {
      used = used c limit;
      read = λ a w l o is g z.
          subst (λ (args : Arguments). Rate args o.answers (own_ticks (start_machine (sheet_of sheet)) o.task a l)
          (tallies (start_machine (sheet_of sheet)) o.task a l)) g (operation_rate c limit a l o is z);
      read_cut_short = λ a w o is g z.
          subst (λ (args : Arguments). Fewer args (own_at_end limit (start_machine (sheet_of sheet)) o.task a)) g (operation_fewer c limit a o is z);
      swap = λ a l ps o is g z. (swap-exactly sheet limit e a l ps o is g z).most;
      swap_cut_short = λ a ps o is g z.
          subst (λ (args : Arguments). Fewer args (own_at_end limit (start_machine (sheet_of sheet)) o.task a)) g (operation_fewer c limit a o is z);
      bank_read = λ p a l done load h last since. bank_in_time c p a load l h last since;
      bank_read_cut_short = λ p a n done load h since. bank_in_fewer c p a load n h since;
      commit = λ p a l k done first h last since. (exchange-exactly c p a k first l h last since).most;
      commit_cut_short = λ p a n k done first h since. exchange_fewer c p a k first n h since;
    }
