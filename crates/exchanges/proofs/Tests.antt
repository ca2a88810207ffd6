-- A test of two numbers, once it is known how it ends.
use Rattle.std.proofs.Common.{◌≡◌, ℕ, eqb, eq-eqb, ne_eqb}
use Rattle.exchanges.specs.Places.{if}

pub when_equal : {A : Type 0} (a b : ℕ) (x y : A) → a ≡ b → x ≡ if (eqb a b) x y
when_equal a b x y e = rw (eq-eqb a b e)

pub when_not : {A : Type 0} (a b : ℕ) (x y : A) → (a ≡ b → ⊥) → y ≡ if (eqb a b) x y
when_not a b x y e = rw (ne_eqb a b e)
