-- Lists: the library's `get_or` and `set` under names that stay shut in proofs, and being in a list.
use Rattle.std.specs.Prelude.{ℕ, ◌≡◌, ◌⊎◌, List, [], ◌∷◌, get_or, set}

-- the element with that number, and the first argument past the end
unfoldable pub at : {A : Type 0} → A → List A → ℕ → A
at d l i = get_or l i d

-- past the end nothing changes
unfoldable pub replace : {A : Type 0} → List A → ℕ → A → List A
replace l i a = set l i a

-- the element is in the list
abbrev pub In : {A : Type 0} → A → List A → Type 0
In a [] = ⊥
In a (b ∷ l) = (a ≡ b) ⊎ In a l
