-- The parts of the report put together, and what the two rounds leave in the buffer.
use Prim.Native.Nat.{ℕ, suc, ◌*◌, min, ◌≤◌, ◌<◌}
use mathlib.Core.Path.{◌≡◌, refl, ap, ◌∙◌}
use mathlib.Core.List.{List, [], ◌∷◌, ◌++◌}
use native.Mathlib.Nat.{zero-add}
use native.Mathlib.Omega.{arith}
use lib.ListN.{length, drop}
use lib.Seq.{sets, sets-eq}
use borrow.Author.Tests.{le-leb, lt-leb}
use Rattle.model.specs.Answer.{written}
use Rattle.model.specs.Report.{line, lines, word_line, block_line}
use Rattle.state.specs.State.{Shared, Own}
use Rattle.state.specs.Held.{memory_of}
use Rattle.report.specs.declared.Totals.{Totals}
use Rattle.report.specs.Writing.{Written, Wrote}
use Rattle.report.specs.declared.text.Writer.{Writer}
use Rattle.report.specs.Text.{task_lines_of, task_most, report_text, report_most, Reported}
use Rattle.report.proofs.Writing.{then, as_text}

pub whole : (m : Shared) (ts : List Own) (t : Totals) {w b p : ℕ} {start : List ℕ} {u v x y z : Writer}
    → w ≡ min t.words 32 → b ≡ min t.blocks 16 → p ≡ min t.tasks 8 → u.buffer.now ≡ start → u.place ≡ 0
    → Wrote (24 * w) (lines w 0 (word_line (memory_of m))) u v → Wrote (112 * b) (lines b 0 (block_line (memory_of m))) v x
    → Wrote (task_most * p) (lines p 0 (task_lines_of ts)) x y → Wrote 13 (line 0x45 (t.now ∷ [])) y z
    → Written report_most (report_text m ts t) start z.buffer.now 0 z.place
unfolding report_text
whole m ts t ew eb ep start from words blocks tasks ends =
    let all = as_text {n = report_most} refl (omega (arith, ew, eb, ep)) (then (then (then words blocks) tasks) ends) in
    rw (← ew, ← eb, ← ep) (rw (start, from) at all.written)

sets_nil : (x : List ℕ) (i : ℕ) → sets [] i x ≡ []
sets_nil [] i = refl
sets_nil (a ∷ x) i = sets_nil x (suc i)

-- The first round writes into the empty part of the buffer b; n is the length that it finds.
module _ {m n : ℕ} {text empty : List ℕ} (b : List ℕ) (w : Written m text [] empty 0 n) where
  unchanged : empty ++ b ≡ b
  unchanged = ap (λ (x : List ℕ). x ++ b) (w.bytes ∙ sets_nil text 0)

  found : n ≡ length text
  found = w.place ∙ zero-add (length text)

  pub long_enough : {k r : ℕ} {after : List ℕ} → n ≤ length (empty ++ b) → Written k text (empty ++ b) after 0 r → Reported text b after r
  unfolding written
  long_enough fits again =
      let inside : length text ≤ length b = omega (arith, found, ap length unchanged) in
      let placed : sets b 0 text ≡ text ++ drop (length text) b =
      sets-eq text b 0 (omega arith) ∙ ap (λ (x : ℕ). text ++ drop x b) (zero-add (length text)) in
      record {
        tells = again.place ∙ zero-add (length text);
        buffer = again.bytes ∙ ap (λ (x : List ℕ). sets x 0 text) unchanged ∙ rw (le-leb (length text) (length b) inside) placed;
      }

  pub too_short : length (empty ++ b) < n → Reported text b (empty ++ b) n
  unfolding written
  too_short short =
      let outside : length b < length text = omega (arith, found, ap length unchanged) in
      record { tells = found; buffer = rw (lt-leb (length text) (length b) outside) unchanged }
