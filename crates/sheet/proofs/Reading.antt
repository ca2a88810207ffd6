-- The reading of a sheet from a place on, and what each outcome there says of the whole sheet's verdict.
use Prim.Native.Nat.{ℕ, zero, suc, ◌+◌, ◌<◌, ◌≤◌}
use mathlib.Core.Path.{◌≡◌, refl, sym, ◌∙◌, ap}
use mathlib.Core.Bool.{Bool, true, false}
use mathlib.Core.List.{List}
use mathlib.Core.Option.{Option, none, some}
use native.Mathlib.Omega.{arith}
use borrow.Author.Tests.{leb-true}
use lib.Dec.{ltb, leb}
use lib.ListN.{length, get_or}
use Rattle.model.specs.Refusal.{Refusal}
use Rattle.model.specs.Command.{Command, Row, row_of, table, total, found, refused, found_whole, found_row, found_byte, command_at}
use Rattle.model.specs.Fault.{Known, nothing_known, fault_of}
use Rattle.model.specs.Sheet.{Verdict, turned_down, end?, at_end, judge_fault, judge, verdict_from, verdict, after}
use Rattle.model.specs.Answer.{checked_by, check_answer}
use Rattle.std.specs.Prelude.{Ok, Err}
use Rattle.sheet.specs.View.{Outcome, view_verdict, checked_of}

-- The reading has come to a place, with what is known there: the verdict from there on, at enough commands, is that of the sheet.
pub record Reached (s : List ℕ) (at : ℕ) (k : Known) : Type 0 where
  pub left : ℕ
  pub enough : length s ≤ left + at
  pub same : verdict_from (suc left) s at k ≡ verdict s

pub start : (s : List ℕ) (k : Known) → k ≡ nothing_known → Reached s 0 k
unfolding verdict
start s k e = record { left = length s; enough = omega arith; same = rw e }

-- AT A COMMAND
module _ (go : ℕ → Known → Verdict) (s : List ℕ) (at : ℕ) (k : Known) (c : Command) (next : ℕ) where
  pub stops-at_fault : {f : Refusal} → fault_of k c ≡ some f → judge_fault go s at k c next (fault_of k c) ≡ turned_down f at
  unfolding judge_fault
  stops-at_fault e = rw e

  pub stops-at_end : fault_of k c ≡ none → end? c ≡ true → judge_fault go s at k c next (fault_of k c) ≡ at_end (ltb next (length s)) next
  unfolding judge_fault
  stops-at_end e f = rw (e, f)

  pub goes_on : fault_of k c ≡ none → end? c ≡ false → judge_fault go s at k c next (fault_of k c) ≡ go next (after k c)
  unfolding judge_fault
  goes_on e f = rw (e, f)

-- one more command
module _ (n : ℕ) (s : List ℕ) (at : ℕ) (k : Known) where
  judged : verdict_from (suc n) s at k ≡ judge (verdict_from n s) s at k (command_at s at)
  unfolding verdict_from
  judged = refl

  pub judged_refused : {f : Refusal} {p : ℕ} → command_at s at ≡ refused f p → verdict_from (suc n) s at k ≡ turned_down f p
  unfolding judge
  judged_refused e = judged ∙ ap (judge (verdict_from n s) s at k) e

  pub judged_found : {c : Command} {next : ℕ} → command_at s at ≡ found c next
      → verdict_from (suc n) s at k ≡ judge_fault (verdict_from n s) s at k c next (fault_of k c)
  unfolding judge
  judged_found e = judged ∙ ap (judge (verdict_from n s) s at k) e

-- THE VERDICT OF THE WHOLE
module _ (s : List ℕ) (at : ℕ) (k : Known) (r : Reached s at k) where
  pub is-refused : {f : Refusal} {p : ℕ} → command_at s at ≡ refused f p → turned_down f p ≡ verdict s
  is-refused e = sym (judged_refused r.left s at k e) ∙ r.same

  pub is_judged :
      {c : Command} {next : ℕ} {v : Verdict} → command_at s at ≡ found c next
      → ((go : ℕ → Known → Verdict) → judge_fault go s at k c next (fault_of k c) ≡ v) → v ≡ verdict s
  is_judged e stops = sym (judged_found r.left s at k e ∙ stops (verdict_from r.left s)) ∙ r.same

-- A GOOD COMMAND
-- the next place lies after the command, and within the sheet
module _ {c : Command} {next : ℕ} (s : List ℕ) (at : ℕ) where
  after-whole :
      (r : Row) (fits : Bool) → leb (suc at + total r.widths) (length s) ≡ fits
      → found_whole fits s at r ≡ found c next → (at < next) × (next ≤ length s)
  unfolding found_whole
  after-whole r true h e =
      let is : suc at + total r.widths ≡ next = cc in
      let within : suc at + total r.widths ≤ length s = leb-true _ _ h in
      (omega arith, omega arith)
  after-whole r false h e = let z : ◌≡◌ {A = ℕ} 0 1 = cc in absurd (omega arith)

  after-row : (o : Option Row) → found_row s at o ≡ found c next → (at < next) × (next ≤ length s)
  unfolding found_row
  after-row none e = let z : ◌≡◌ {A = ℕ} 0 1 = cc in absurd (omega arith)
  after-row (some r) e = after-whole r _ refl e

  after-byte : (b : Bool) → found_byte b s at ≡ found c next → (at < next) × (next ≤ length s)
  unfolding found_byte
  after-byte true e = after-row (row_of (get_or s at 0) table) e
  after-byte false e = let z : ◌≡◌ {A = ℕ} 0 1 = cc in absurd (omega arith)

  pub next-after : command_at s at ≡ found c next → (at < next) × (next ≤ length s)
  unfolding command_at
  next-after e = after-byte (ltb at (length s)) e

step :
    (s : List ℕ) (at : ℕ) (k : Known) {c : Command} {next : ℕ} (left : ℕ)
    → length s ≤ left + at → verdict_from (suc left) s at k ≡ verdict s
    → command_at s at ≡ found c next → fault_of k c ≡ none → end? c ≡ false → Reached s next (after k c)
step s at k zero enough same e good on = absurd (omega (arith, (next-after s at e).0, (next-after s at e).1))
step s at k {c} {next} (suc left) enough same e good on =
    record {
      left = left;
      enough = omega (arith, (next-after s at e).0);
      same = sym (judged_found (suc left) s at k e ∙ goes_on (verdict_from (suc left) s) s at k c next good on) ∙ same;
    }

pub next_reached :
    (s : List ℕ) (at : ℕ) (k : Known) {c : Command} {next : ℕ}
    → Reached s at k → command_at s at ≡ found c next → fault_of k c ≡ none → end? c ≡ false → Reached s next (after k c)
next_reached s at k r e good on = step s at k r.left r.enough r.same e good on

-- NUMBER AND PLACE
checked_view : (v : Outcome) → checked_of v ≡ checked_by (view_verdict v)
unfolding checked_by
checked_view (Ok u) = refl
checked_view (Err f) = refl

checked_bytes : (s : List ℕ) → check_answer s ≡ checked_by (verdict s)
unfolding check_answer
checked_bytes s = refl

pub checked_is : (v : Outcome) (s : List ℕ) → view_verdict v ≡ verdict s → checked_of v ≡ check_answer s
checked_is v s e = checked_view v ∙ ap checked_by e ∙ sym (checked_bytes s)
