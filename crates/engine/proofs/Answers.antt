-- The model's answer, case by case, and what each `return` of the two entries gives.
use Prim.Native.Nat.{ℕ, ◌<◌, ◌≤◌}
use mathlib.Core.Path.{◌≡◌, refl, sym, ap, ◌∙◌, subst}
use mathlib.Core.Logic.{◌↔◌}
use mathlib.Core.Bool.{Bool}
use mathlib.Core.List.{List}
use native.Mathlib.Omega.{arith}
use borrow.Author.Tests.{le-leb, lt-leb}
use lib.Dec.{leb}
use lib.ListN.{length, get_or}
use Rattle.std.specs.Prelude.{Ok, Err}
use Rattle.model.specs.Refusal as R
use Rattle.model.specs.Sheet.{Verdict, accepted, turned_down, verdict}
use Rattle.model.specs.Answer as M
use Rattle.model.specs.WellFormed.{WellFormed}
use Rattle.model.specs.Answer.{Checked, checked_by, check_answer, run_answer, answered_by, limited_by, written, refuse, report_of}
use Rattle.model.proofs.Refusals.{number-some}
use Rattle.model.proofs.WellFormed.Theorem.{accepted_when_well_formed}
use Rattle.model.proofs.Demand3.Theorem.{demand_3}
use Rattle.model.proofs.Rates.Theorem.{rates, exact-ticks}
use Rattle.model.proofs.Waiting.{waits}
use Rattle.model.proofs.Drops.Theorem.{drops}
use Rattle.model.proofs.LostAttempts.Theorem.{lost_attempts}
use Rattle.commands.specs.View.{view_refusal}
use Rattle.sheet.specs.View.{Outcome, view_verdict, checked_of}
use Rattle.commands.specs.declared.Fault.{Fault}
use Rattle.report.specs.Text.{Reported}
use Rattle.report.proofs.Model.{answer-written, answer_too_short}
use Rattle.engine.specs.Contract.{ChecksFor, Checks, RunsFor, Runs}
use Rattle.engine.specs.Flat.{Ran}
use Rattle.engine.proofs.Final.{same_text}

-- THE SHEET CHECK
number_of : (v : Verdict) → (checked_by v).number ≡ 0 → v ≡ accepted
unfolding checked_by
number_of accepted e = refl
number_of (turned_down f p) e = absurd (omega (arith, e, number-some f))

-- the number is 0 exactly when the sheet is well formed
formed : (s : List ℕ) → ((i : ℕ) → get_or s i 0 < 256) → {n : ℕ} → n ≡ (check_answer s).number → n ≡ 0 ↔ WellFormed s
unfolding check_answer
formed s small {n} e =
    let w = accepted_when_well_formed s small in (
      λ z. w.0 (number_of (verdict s) (sym e ∙ z)),
      λ f. e ∙ ap (λ (v : Verdict). (checked_by v).number) (w.1 f) ∙ nought,
    )
  where
    nought : (checked_by accepted).number ≡ 0
    nought = refl

module _ {s : List ℕ} (small : (i : ℕ) → get_or s i 0 < 256) where
  checks : {n p : ℕ} {c : Checked} → c ≡ check_answer s → n ≡ c.number → p ≡ c.place → ChecksFor s n p
  checks e f g =
      let number = f ∙ ap (λ (c : Checked). c.number) e in
      record { number = number; place = g ∙ ap (λ (c : Checked). c.place) e; well_formed = formed s small number }

  pub returned : (r : Outcome) → checked_of r ≡ check_answer s → Checks s r
  returned r e = checks e refl refl

-- THE RUN
module _ (s : List ℕ) (limit : ℕ) (b : List ℕ) where
  answered : {v : Verdict} → verdict s ≡ v → run_answer s limit b ≡ answered_by v s limit b
  unfolding run_answer
  answered e = ap (λ (v : Verdict). answered_by v s limit b) e

  limited : {t : Bool} → verdict s ≡ accepted → leb limit 65535 ≡ t → run_answer s limit b ≡ limited_by t s limit b
  unfolding answered_by
  limited e h = answered e ∙ ap (λ t. limited_by t s limit b) h

  refused-answer : (f : R.Refusal) (p : ℕ) → verdict s ≡ turned_down f p → run_answer s limit b ≡ refuse f p b
  unfolding answered_by
  refused-answer f p e = answered e

  high-answer : verdict s ≡ accepted → 65535 < limit → run_answer s limit b ≡ refuse R.limit_too_high 0 b
  unfolding limited_by
  high-answer e h = limited e (lt-leb limit 65535 h)

  ran-answer : verdict s ≡ accepted → limit ≤ 65535 → run_answer s limit b ≡ written (leb (length (report_of s limit)) (length b)) (report_of s limit) b
  unfolding limited_by
  ran-answer e h = limited e (le-leb limit 65535 h)

  -- a call that returns what the model answers
  answers : {after : List ℕ} {n p : ℕ} → run_answer s limit b ≡ record { number = n; place = p; buffer = after } → RunsFor s limit b after n p
  answers e =
      record {
        number = sym (ap (λ (a : M.Answer). a.number) e);
        place = sym (ap (λ (a : M.Answer). a.place) e);
        buffer = sym (ap (λ (a : M.Answer). a.buffer) e);
        whole = demand_3 s limit;
        rates = rates s limit;
        exact = exact-ticks s limit;
        waits = waits s limit;
        drops = drops s limit;
        lost = lost_attempts s limit;
      }

  pub run-refused : (f : Fault) → view_verdict (Err f) ≡ verdict s → Runs s limit b b (Err f)
  run-refused f e = answers (refused-answer (view_refusal f.refusal) f.place (sym e))

  pub run-too-high : view_verdict (Ok tt) ≡ verdict s → 65535 < limit → RunsFor s limit b b 9 0
  run-too-high e h = answers (high-answer (sym e) h)

  module _ (small : (i : ℕ) → get_or s i 0 < 256) (e : view_verdict (Ok tt) ≡ verdict s) (most : limit ≤ 65535) {after : List ℕ} {n : ℕ}
      (r : Ran s limit b after n) where
    reported : Reported (report_of s limit) b after n
    reported = subst (λ (text : List ℕ). Reported text b after n) (same_text small (sym e) limit most r.run) r.reported

    pub run-too-short : length b < n → RunsFor s limit b after 10 n
    run-too-short h = answers (ran-answer (sym e) most ∙ sym (answer_too_short reported h))

    pub run-written : n ≤ length b → RunsFor s limit b after 0 n
    run-written h = answers (ran-answer (sym e) most ∙ sym (answer-written reported h))
