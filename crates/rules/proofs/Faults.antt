-- At one command the lowest number wins: the fault is that of the first rule that is broken.
use Prim.Native.Nat.{ℕ}
use native.Mathlib.Omega.{arith}
use mathlib.Core.Path.{◌≡◌, refl, sym, ◌∙◌}
use mathlib.Core.Bool.{Bool, true, false}
use mathlib.Core.Option.{none, some}
use Rattle.model.specs.Refusal.{Refusal, misplaced, ceiling_passed, out_of_range, word_repeated, releases_not_rising}
use Rattle.model.specs.Command.{Command}
use Rattle.rules.specs.Broken.{Broken, place, ceiling, range, repeated, falling}
use Rattle.model.specs.Fault.{Known, in_place, under_ceiling, in_range, new_word, rising, lowest, fault_of}

none≢some : {f : Refusal} → some f ≡ none → ⊥
none≢some e = let z : ◌≡◌ {A = ℕ} 0 1 = cc in omega arith

module _ (k : Known) (c : Command) where
  pub fault_is : fault_of k c ≡ lowest (in_place k c) (under_ceiling k c) (in_range k.counts c) (new_word k.body c) (rising k c)
  unfolding fault_of
  fault_is = refl

  -- the rule that is broken gives the fault, and the fault the rule
  pub is_fault : {f : Refusal} → Broken k c f → fault_of k c ≡ some f
  unfolding lowest
  is_fault (place a) = rw (fault_is, a)
  is_fault (ceiling a b) = rw (fault_is, a, b)
  is_fault (range a b d) = rw (fault_is, a, b, d)
  is_fault (repeated a b d e) = rw (fault_is, a, b, d, e)
  is_fault (falling a b d e g) = rw (fault_is, a, b, d, e, g)

  broken_by :
      (x y z u v : Bool) → in_place k c ≡ x → under_ceiling k c ≡ y → in_range k.counts c ≡ z → new_word k.body c ≡ u → rising k c ≡ v
      → {f : Refusal} → lowest x y z u v ≡ some f → Broken k c f
  unfolding lowest
  broken_by false y z u v a b d e g {f} h = let is : misplaced ≡ f = cc in rw (← is) (place a)
  broken_by true false z u v a b d e g {f} h = let is : ceiling_passed ≡ f = cc in rw (← is) (ceiling a b)
  broken_by true true false u v a b d e g {f} h = let is : out_of_range ≡ f = cc in rw (← is) (range a b d)
  broken_by true true true false v a b d e g {f} h = let is : word_repeated ≡ f = cc in rw (← is) (repeated a b d e)
  broken_by true true true true false a b d e g {f} h = let is : releases_not_rising ≡ f = cc in rw (← is) (falling a b d e g)
  broken_by true true true true true a b d e g h = absurd (none≢some (sym h))

  pub is_broken : {f : Refusal} → fault_of k c ≡ some f → Broken k c f
  is_broken e = broken_by _ _ _ _ _ refl refl refl refl refl (sym fault_is ∙ e)

-- A command without a fault keeps every rule.
pub record Keeps (k : Known) (c : Command) : Type 0 where
  pub place : in_place k c ≡ true
  pub under : under_ceiling k c ≡ true
  pub range : in_range k.counts c ≡ true
  pub new : new_word k.body c ≡ true
  pub rise : rising k c ≡ true

all_hold : (a b c d e : Bool) → lowest a b c d e ≡ none → (a ≡ true) × (b ≡ true) × (c ≡ true) × (d ≡ true) × (e ≡ true)
unfolding lowest
all_hold true true true true true h = (refl, refl, refl, refl, refl)
all_hold true true true true false h = absurd (none≢some h)
all_hold true true true false e h = absurd (none≢some h)
all_hold true true false d e h = absurd (none≢some h)
all_hold true false c d e h = absurd (none≢some h)
all_hold false b c d e h = absurd (none≢some h)

pub keeps : (k : Known) (c : Command) → fault_of k c ≡ none → Keeps k c
keeps k c e =
    let h = all_hold _ _ _ _ _ (sym (fault_is k c) ∙ e) in
    record { place = h.0; under = h.1; range = h.2; new = h.3; rise = h.4 }
