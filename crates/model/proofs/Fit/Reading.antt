-- An accepted sheet read as a list of commands: each without fault in its turn, END the last.
use Prim.Native.Nat.{ℕ, zero, suc, ◌+◌, ◌≤◌}
use mathlib.Core.Path.{◌≡◌, refl, sym, subst}
use mathlib.Core.Bool.{Bool, true, false}
use mathlib.Core.List.{List, [], ◌∷◌}
use mathlib.Core.Option.{Option, none, some}
use native.Mathlib.Omega.{arith}
use lib.Dec.{ltb, leb}
use lib.ListN.{length, get_or}
use borrow.Author.Tests.{ltb-false, leb-true, le-ltb}
use Rattle.model.specs.Refusal.{Refusal}
use Rattle.model.specs.Command.{Command, END, Row, table, row_of, total, operand, Found}
use Rattle.model.specs.Command.{found, refused, found_whole, found_row, found_byte, command_at}
use Rattle.model.specs.Fault.{Known, nothing_known, fault_of}
use Rattle.model.specs.Sheet.{after, accepted, turned_down, end?, at_end, judge_end, judge_fault, judge, verdict_from, verdict, commands_from}
use Rattle.model.proofs.Lists.{impossible}
use Rattle.model.proofs.Ends.{is-end}

-- A COMMAND FOUND AT A PLACE: its row of the table, with the operands from the next byte on
pub record FoundAt (sheet : List ℕ) (place : ℕ) (c : Command) (next : ℕ) : Type 0 where
  pub row : Row
  pub byte : row_of (get_or sheet place 0) table ≡ some row
  pub command : c ≡ row.command (λ n. operand sheet (suc place) row.widths n)
  pub onward : next ≡ suc place + total row.widths
  pub whole : next ≤ length sheet

module _ (sheet : List ℕ) (place : ℕ) {c : Command} {next : ℕ} where
  whole-found : (r : Row) → row_of (get_or sheet place 0) table ≡ some r → (b : Bool) → leb (suc place + total r.widths) (length sheet) ≡ b
      → found_whole b sheet place r ≡ found c next → FoundAt sheet place c next
  unfolding found_whole
  whole-found r q true e f =
      let onward : next ≡ suc place + total r.widths = cc in
      let fits = leb-true (suc place + total r.widths) (length sheet) e in
      record { row = r; byte = q; command = cc; onward = onward; whole = omega arith }
  whole-found r q false e f = impossible (cc)

  row-found : (o : Option Row) → row_of (get_or sheet place 0) table ≡ o → found_row sheet place o ≡ found c next → FoundAt sheet place c next
  unfolding found_row
  row-found none q f = impossible (cc)
  row-found (some r) q f = whole-found r q (leb (suc place + total r.widths) (length sheet)) refl f

  byte-found : (b : Bool) → found_byte b sheet place ≡ found c next → FoundAt sheet place c next
  unfolding found_byte
  byte-found true f = row-found (row_of (get_or sheet place 0) table) refl f
  byte-found false f = impossible (cc)

  pub found_at : command_at sheet place ≡ found c next → FoundAt sheet place c next
  unfolding command_at
  found_at f = byte-found (ltb place (length sheet)) f

-- nothing is found past the end
pub none-past : (sheet : List ℕ) (place : ℕ) → length sheet ≤ place → (n : ℕ) → commands_from n sheet place ≡ []
unfolding commands_from command_at found_byte
none-past sheet place h zero = refl
none-past sheet place h (suc n) = rw (le-ltb place (length sheet) h) refl

-- AN ACCEPTED SHEET'S COMMANDS from a place on, with what is known there
pub data ReadFrom (sheet : List ℕ) : ℕ → Known → List Command → Type 0 where
  lastly : {place next : ℕ} {k : Known} → FoundAt sheet place END next → length sheet ≤ next → fault_of k END ≡ none → ReadFrom sheet place k (END ∷ [])
  firstly : {place next : ℕ} {k : Known} {c : Command} {l : List Command} → FoundAt sheet place c next → fault_of k c ≡ none → end? c ≡ false
      → ReadFrom sheet next (after k c) l → ReadFrom sheet place k (c ∷ l)

module _ (sheet : List ℕ) where
  not-accepted : {f : Refusal} {place : ℕ} → {A : Type 0} → turned_down f place ≡ accepted → A
  not-accepted e = impossible (cc)

  -- what the reading goes on to, from place and Known
  Onward : ℕ → Type 0
  Onward n = (f place : ℕ) (k : Known) → verdict_from n sheet place k ≡ accepted → length sheet ≤ place + f
      → ReadFrom sheet place k (commands_from f sheet place)

  end_read : (f place next : ℕ) (k : Known) → FoundAt sheet place END next → fault_of k END ≡ none → (b : Bool) → ltb next (length sheet) ≡ b
      → at_end b next ≡ accepted → ReadFrom sheet place k (END ∷ commands_from f sheet next)
  unfolding at_end
  end_read f place next k at q true e a = not-accepted a
  end_read f place next k at q false e a =
      let past = ltb-false next (length sheet) e in
      subst (λ (l : List Command). ReadFrom sheet place k (END ∷ l)) (sym (none-past sheet next past f)) (lastly at past q)

  end_step : (n : ℕ) → Onward n → (f place next : ℕ) (c : Command) (k : Known) → FoundAt sheet place c next → length sheet ≤ next + f
      → fault_of k c ≡ none → (b : Bool) → end? c ≡ b → judge_end (verdict_from n sheet) sheet k c next b ≡ accepted
      → ReadFrom sheet place k (c ∷ commands_from f sheet next)
  unfolding judge_end Onward
  end_step n on f place next c k at h q true e a =
      let s = is-end c e in
      subst (λ (z : Command). ReadFrom sheet place k (z ∷ commands_from f sheet next)) (sym s)
      (end_read f place next k (rw s at at) (rw s at q) (ltb next (length sheet)) refl a)
  end_step n on f place next c k at h q false e a = firstly at q e (on f next (after k c) a h)

  fault_step : (n : ℕ) → Onward n → (f place next : ℕ) (c : Command) (k : Known) → FoundAt sheet place c next → length sheet ≤ next + f
      → (o : Option Refusal) → fault_of k c ≡ o → judge_fault (verdict_from n sheet) sheet place k c next o ≡ accepted
      → ReadFrom sheet place k (c ∷ commands_from f sheet next)
  unfolding judge_fault
  fault_step n on f place next c k at h (some r) q a = not-accepted a
  fault_step n on f place next c k at h none q a = end_step n on f place next c k at h q (end? c) refl a

  -- a command takes one byte at least
  found-step : (n : ℕ) → Onward n → (f place : ℕ) (k : Known) → length sheet ≤ place + f → (o : Found) → command_at sheet place ≡ o
      → judge (verdict_from n sheet) sheet place k o ≡ accepted → ReadFrom sheet place k (commands_from f sheet place)
  unfolding judge commands_from
  found-step n on f place k h (refused r p) e a = not-accepted a
  found-step n on zero place k h (found c next) e a = let w = found_at sheet place e in absurd (omega (arith, w.onward, w.whole))
  found-step n on (suc f) place k h (found c next) e a =
      let w = found_at sheet place e in
      rw e (fault_step n on f place next c k w (omega (arith, w.onward)) (fault_of k c) refl a)

  read-from : (n : ℕ) → Onward n
  unfolding verdict_from Onward
  read-from zero f place k a h = not-accepted a
  read-from (suc n) f place k a h = found-step n (read-from n) f place k h (command_at sheet place) refl a

  pub read_all : verdict sheet ≡ accepted → ReadFrom sheet 0 nothing_known (commands_from (length sheet) sheet 0)
  unfolding verdict Onward
  read_all a = read-from (suc (length sheet)) (length sheet) 0 nothing_known a (omega arith)

-- GOOD COMMANDS, of each of which P holds
pub data Good (P : Command → Type 0) : Known → List Command → Type 0 where
  ending : {k : Known} → fault_of k END ≡ none → Good P k (END ∷ [])
  going : {k : Known} {c : Command} {l : List Command} → fault_of k c ≡ none → end? c ≡ false → P c → Good P (after k c) l → Good P k (c ∷ l)

module _ (sheet : List ℕ) (P : Command → Type 0) (holds : (place : ℕ) (c : Command) (next : ℕ) → FoundAt sheet place c next → P c) where
  pub read-good : {place : ℕ} {k : Known} {l : List Command} → ReadFrom sheet place k l → Good P k l
  read-good (lastly at past q) = ending q
  read-good {place} (firstly {next = next} {c = c} at q e r) = going q e (holds place c next at) (read-good r)

  pub good : verdict sheet ≡ accepted → Good P nothing_known (commands_from (length sheet) sheet 0)
  good a = read-good (read_all sheet a)
