-- A slice's test for a number is membership.
use Prim.Native.Nat.{ℕ}
use mathlib.Core.Path.{◌≡◌, refl, sym, ap, ◌∙◌}
use mathlib.Core.Bool.{Bool, ◌||◌}
use mathlib.Core.List.{List, [], ◌∷◌}
use borrow.Author.Tests.{eq-eqb, ne_eqb, eqb-true, eqb-false}
use lib.Dec.{eqb}
use Rattle.model.specs.Fault.{among}
use Rattle.std.specs.List.{list_any}
use Rattle.commands.proofs.Decoding.{cases}

turned : (a b : ℕ) → eqb a b ≡ eqb b a
turned a b =
    cases (eqb a b) (λ e. e ∙ sym (eq-eqb b a (sym (eqb-true a b e)))) (λ e. e ∙ sym (ne_eqb b a (λ q. eqb-false a b e (sym q))))

pub any_among : (x : ℕ) (l : List ℕ) → list_any (λ y. eqb y x) l ≡ among x l
unfolding among
any_among x [] = refl
any_among x (y ∷ l) = ap (λ (b : Bool). b || list_any (λ z. eqb z x) l) (turned y x) ∙ ap (λ (b : Bool). eqb x y || b) (any_among x l)
