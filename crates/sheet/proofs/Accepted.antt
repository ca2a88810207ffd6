-- A sheet is accepted exactly when it is read to its end, and turned down exactly where and for what is wrong.
use Prim.Native.Nat.{ℕ, zero, suc, ◌+◌, ◌-◌, ◌<◌, ◌≤◌}
use mathlib.Core.Path.{◌≡◌, refl, sym, ◌∙◌, ap, subst}
use mathlib.Core.Bool.{Bool, true, false}
use mathlib.Core.List.{List, [], ◌∷◌, ◌++◌}
use mathlib.Core.Option.{Option, none, some}
use mathlib.Core.Logic.{◌↔◌}
use native.Mathlib.Omega.{arith}
use native.Mathlib.Nat.{zero-add, suc-add}
use borrow.Author.Tests.{ltb-true, ltb-false, lt-ltb, le-ltb}
use lib.Dec.{ltb}
use lib.ListN.{length}
use Rattle.model.specs.Refusal.{Refusal}
use Rattle.model.specs.Command.{Command, END, Found, found, refused, command_at}
use Rattle.model.specs.Fault.{Known, nothing_known, fault_of}
use Rattle.model.specs.Sheet.{Verdict, accepted, turned_down, end?, at_end, verdict_from, verdict, after}
use Rattle.sheet.specs.ReadToEnd.{Stand, nothing, first, Faultless, unread, good, Read}
use Rattle.sheet.specs.ReadToEnd.{ReadToEnd, Wrong, missing, faulty, followed, TurnedDown}
use Rattle.model.proofs.Ends.{is-end}
use Rattle.rules.proofs.Faults.{is_fault, is_broken}
use Rattle.sheet.proofs.Gaps.{is-missing, is-refused_there}
use Rattle.sheet.proofs.Reading.{stops-at_fault, stops-at_end, goes_on, judged_refused, judged_found, next-after}

-- ONE MORE COMMAND AT THE END
more_stand : {s : List ℕ} {o p q : ℕ} {c : Command} {l : List Command} → Stand s o l p → command_at s p ≡ found c q → Stand s o (l ++ (c ∷ [])) q
more_stand nothing e = first e nothing
more_stand (first f r) e = first f (more_stand r e)

more_faultless :
    {k m : Known} {l : List Command} (c : Command) → Faultless k l m
    → fault_of m c ≡ none → end? c ≡ false → Faultless k (l ++ (c ∷ [])) (after m c)
more_faultless c unread e f = good e f unread
more_faultless c (good g h r) e f = good g h (more_faultless c r e f)

more : {s : List ℕ} {p next : ℕ} {k : Known} {c : Command} → Read s p k → command_at s p ≡ found c next → fault_of k c ≡ none → end? c ≡ false
    → Read s next (after k c)
more {c = c} r e f g = record { commands = _; stand = more_stand r.stand e; faultless = more_faultless c r.faultless f g }

-- FROM THE VERDICT
data Outcome (s : List ℕ) : Verdict → Type 0 where
  well : ReadToEnd s → Outcome s accepted
  wrong : {f : Refusal} {q : ℕ} → TurnedDown s f q → Outcome s (turned_down f q)

module _ (s : List ℕ) (p : ℕ) (k : Known) (r : Read s p k) where
  wrong-at : {f : Refusal} {q : ℕ} → Wrong s p k f q → Outcome s (turned_down f q)
  wrong-at w = wrong (record { place = p; known = k; read = r; wrong = w })

  at-end : (next : ℕ) → command_at s p ≡ found END next → fault_of k END ≡ none → (b : Bool) → ltb next (length s) ≡ b → Outcome s (at_end b next)
  unfolding at_end
  at-end next e f true h = wrong-at (followed e f (ltb-true next (length s) h))
  at-end next e f false h =
      let is : next ≡ length s = omega (arith, ltb-false next (length s) h, (next-after s p e).1) in
      well (record { place = p; known = k; read = r; last = rw (← is) e; ends = f })

-- a command, given the outcome from the next place on
module _ (n : ℕ) (s : List ℕ) (p : ℕ) (k : Known) (r : Read s p k)
    (go : (next : ℕ) (m : Known) → p < next → Read s next m → Outcome s (verdict_from n s next m)) where
  module _ (c : Command) (next : ℕ) (e : command_at s p ≡ found c next) where
    on_end : fault_of k c ≡ none → (b : Bool) → end? c ≡ b → Outcome s (verdict_from (suc n) s p k)
    on_end f true g =
        let is : c ≡ END = is-end c g in
        subst (Outcome s) (sym (judged_found n s p k e ∙ stops-at_end (verdict_from n s) s p k c next f g))
        (at-end s p k r next (rw is at e) (rw is at f) (ltb next (length s)) refl)
    on_end f false g =
        subst (Outcome s) (sym (judged_found n s p k e ∙ goes_on (verdict_from n s) s p k c next f g))
        (go next (after k c) (next-after s p e).0 (more r e f g))

    on_fault : (o : Option Refusal) → fault_of k c ≡ o → Outcome s (verdict_from (suc n) s p k)
    on_fault none f = on_end f (end? c) refl
    on_fault (some x) f =
        subst (Outcome s) (sym (judged_found n s p k e ∙ stops-at_fault (verdict_from n s) s p k c next f))
        (wrong-at s p k r (faulty e (is_broken k c f)))

  on-found : (o : Found) → command_at s p ≡ o → Outcome s (verdict_from (suc n) s p k)
  on-found (refused f q) e = subst (Outcome s) (sym (judged_refused n s p k e)) (wrong-at s p k r (missing (is-missing s p e)))
  on-found (found c next) e = on_fault c next e (fault_of k c) refl

-- the commands advance, and stay within the sheet
pub advance : {s : List ℕ} {o p : ℕ} {l : List Command} → Stand s o l p → o ≤ length s → (o + length l ≤ p) × (p ≤ length s)
advance nothing h = (omega arith, h)
advance {s} {o} (first e r) h =
    let a = next-after s o e in
    let b = advance r a.1 in
    (omega (arith, a.0, b.0), b.1)

outcome : (n : ℕ) (s : List ℕ) (p : ℕ) (k : Known) → length s < n + p → Read s p k → Outcome s (verdict_from n s p k)
outcome zero s p k h r = absurd (omega (arith, (advance r.stand (omega arith)).1))
outcome (suc n) s p k h r = on-found n s p k r (λ next m less read. outcome n s next m (omega arith) read) (command_at s p) refl

outcome_of : (s : List ℕ) → Outcome s (verdict s)
unfolding verdict
outcome_of s = outcome (suc (length s)) s 0 nothing_known (omega arith) (record { commands = []; stand = nothing; faultless = unread })

if-accepted : {s : List ℕ} {v : Verdict} → Outcome s v → v ≡ accepted → ReadToEnd s
if-accepted (well w) e = w
if-accepted (wrong w) e = let z : ◌≡◌ {A = ℕ} 0 1 = cc in absurd (omega arith)

if_turned_down : {s : List ℕ} {v : Verdict} {f : Refusal} {q : ℕ} → Outcome s v → v ≡ turned_down f q → TurnedDown s f q
if_turned_down (well w) e = let z : ◌≡◌ {A = ℕ} 0 1 = cc in absurd (omega arith)
if_turned_down {s} {f = f} {q = q} (wrong {f = g} {q = r} w) e =
    let a : g ≡ f = cc in
    let b : r ≡ q = cc in
    rw (← a, ← b) w

-- TO THE VERDICT
-- commands without a fault hand the verdict on
pass :
    {s : List ℕ} {o p : ℕ} {k m : Known} {l : List Command} → Stand s o l p → Faultless k l m
    → (n : ℕ) → verdict_from (length l + n) s o k ≡ verdict_from n s p m
pass nothing unread n = rw zero-add
pass {s} {o} {k = k} (first {next = next} {c = c} {l = l} e r) (good g h q) n =
    rw suc-add (judged_found (length l + n) s o k e ∙ goes_on (verdict_from (length l + n) s) s o k c next g h ∙ pass r q n)

verdict-is : (s : List ℕ) → verdict s ≡ verdict_from (suc (length s)) s 0 nothing_known
unfolding verdict
verdict-is s = refl

-- the verdict from the place that the reading has come to
pass_to : {s : List ℕ} {p : ℕ} {k : Known} (r : Read s p k) (n : ℕ) → suc (length s) ≡ length r.commands + n → verdict s ≡ verdict_from n s p k
pass_to {s} r n e = verdict-is s ∙ ap (λ (m : ℕ). verdict_from m s 0 nothing_known) e ∙ pass r.stand r.faultless n

module _ (s : List ℕ) (p : ℕ) (k : Known) (r : Read s p k) where
  enough : suc (length s) ≡ length r.commands + suc (length s - length r.commands)
  enough = omega (arith, (advance r.stand (omega arith)).0, (advance r.stand (omega arith)).1)

  passed : verdict s ≡ verdict_from (suc (length s - length r.commands)) s p k
  passed = pass_to r (suc (length s - length r.commands)) enough

  turned_down_lem : {f : Refusal} {q : ℕ} → Wrong s p k f q → verdict s ≡ turned_down f q
  unfolding at_end
  turned_down_lem (missing x) = passed ∙ judged_refused _ s p k (is-refused_there s p x)
  turned_down_lem (faulty {c = c} {next = next} e f) = passed ∙ judged_found _ s p k e ∙ stops-at_fault _ s p k c next (is_fault k c f)
  turned_down_lem (followed {next = next} e f h) =
      passed ∙ judged_found _ s p k e ∙ stops-at_end _ s p k END next f refl ∙ ap (λ (b : Bool). at_end b next) (lt-ltb next (length s) h)

  ended : command_at s p ≡ found END (length s) → fault_of k END ≡ none → verdict s ≡ accepted
  unfolding at_end
  ended e f =
      passed ∙ judged_found _ s p k e ∙ stops-at_end _ s p k END (length s) f refl
      ∙ ap (λ (b : Bool). at_end b (length s)) (le-ltb (length s) (length s) (omega arith))

-- THE THEOREMS
pub accepted_when_read : (s : List ℕ) → verdict s ≡ accepted ↔ ReadToEnd s
accepted_when_read s = (if-accepted (outcome_of s), λ w. ended s w.place w.known w.read w.last w.ends)

pub turned_down_when_wrong : (s : List ℕ) (f : Refusal) (q : ℕ) → verdict s ≡ turned_down f q ↔ TurnedDown s f q
turned_down_when_wrong s f q = (if_turned_down (outcome_of s), λ w. turned_down_lem s w.place w.known w.read w.wrong)
