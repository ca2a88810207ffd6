-- The text read off the records is the model's report of the machine that they hold, and a call's result the model's answer.
use Prim.Native.Nat.{ℕ, ◌+◌, min, ◌≤◌, ◌<◌}
use mathlib.Core.Path.{◌≡◌, sym, ap, ◌∙◌}
use mathlib.Core.List.{List, ◌∷◌, ◌++◌}
use mathlib.Core.Bool.{true, false}
use native.Mathlib.Omega.{arith}
use lib.Dec.{leb}
use lib.ListN.{length, get_or}
use borrow.Author.Tests.{le-leb, lt-leb}
use Rattle.model.specs.Ceilings.{max_words, max_blocks, max_tasks}
use Rattle.model.specs.Sheet.{Sheet}
use Rattle.model.specs.Machine.{Machine, task_at}
use Rattle.model.specs.Report.{line, task_line, task_lines, report}
use Rattle.model.specs.Answer.{Answer, written}
use Rattle.state.specs.State.{Shared, Own, no_own}
use Rattle.report.specs.declared.Totals.{Totals}
use Rattle.report.specs.Text.{task_lines_of, report_text, Reported, Holds, Within}
use Rattle.report.proofs.Lines.{lines_equal}

least : (n k c : ℕ) → n ≡ k → k ≤ c → min n c ≡ k
least n k c e h = omega arith

module _ {s : Sheet} {f : Machine} {m : Shared} {ts : List Own} {t : Totals}
    (h : Holds s f m ts t) (c : Within s) where
  pub same-report : report_text m ts t ≡ report s f
  unfolding report_text report
  same-report =
      rw (
        least t.words (length s.words) max_words h.words c.words,
        least t.blocks (length s.blocks) max_blocks h.blocks c.blocks,
        least t.tasks (length s.bodies) max_tasks h.tasks c.bodies,
        h.memory,
        h.now,
        lines_equal (length s.bodies) 0 (task_lines_of ts) (task_lines f.tasks) each,
      )
    where
      each : (p : ℕ) → 0 ≤ p → p < 0 + length s.bodies → task_lines_of ts p ≡ task_lines f.tasks p
      each p low high =
          let inside : p < length s.bodies = omega arith in
          ap (λ (l : List ℕ). line 0x54 (p ∷ l) ++ line 0x52 (p ∷ (get_or ts p no_own).registers)) (sym (h.counts p inside))
          ∙ ap (λ (l : List ℕ). task_line p (task_at f.tasks p) ++ line 0x52 (p ∷ l)) (sym (h.registers p inside))

abbrev pub answer : ℕ → ℕ → List ℕ → Answer
answer number place buffer = record { number = number; place = place; buffer = buffer }

-- The answer of a run, from what a call of `report` gives: number 0, or 10 where the buffer is shorter than the report.
module _ {text before after : List ℕ} {r : ℕ} (call : Reported text before after r) where
  pub answer-written : r ≤ length before → answer 0 r after ≡ written (leb (length text) (length before)) text before
  unfolding written
  answer-written fits =
      let e : leb (length text) (length before) ≡ true = le-leb (length text) (length before) (omega (arith, call.tells)) in
      rw (call.buffer, call.tells, e)

  pub answer_too_short : length before < r → answer 10 r after ≡ written (leb (length text) (length before)) text before
  unfolding written
  answer_too_short short =
      let e : leb (length text) (length before) ≡ false = lt-leb (length text) (length before) (omega (arith, call.tells)) in
      rw (call.buffer, call.tells, e)
