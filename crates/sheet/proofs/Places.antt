-- The commands from a place on are the command there and those from the next place on.
use Prim.Native.Nat.{ℕ, zero, suc, ◌+◌, ◌<◌, ◌≤◌}
use mathlib.Core.Path.{◌≡◌, refl, sym, ◌∙◌, ap}
use mathlib.Core.List.{List, [], ◌∷◌, ◌++◌}
use native.Mathlib.Omega.{arith}
use lib.ListN.{length}
use Rattle.model.specs.Refusal.{Refusal}
use Rattle.model.specs.Command.{Command, Found, found, refused, command_at}
use Rattle.model.specs.Sheet.{listed, commands_from, declared, sheet_of, commands_at, declared_at}
use Rattle.sheet.specs.ReadToEnd.{Stand, nothing, first}
use Rattle.commands.proofs.Decoding.{past_the_end}
use Rattle.sheet.proofs.Reading.{next-after}

-- COMMANDS
module _ (n : ℕ) (s : List ℕ) (p : ℕ) where
  from_is : commands_from (suc n) s p ≡ listed (commands_from n s) (command_at s p)
  unfolding commands_from
  from_is = refl

  from_found : {c : Command} {next : ℕ} → command_at s p ≡ found c next → commands_from (suc n) s p ≡ c ∷ commands_from n s next
  unfolding listed
  from_found e = from_is ∙ ap (listed (commands_from n s)) e

  from-refused : {f : Refusal} {q : ℕ} → command_at s p ≡ refused f q → commands_from (suc n) s p ≡ []
  unfolding listed
  from-refused e = from_is ∙ ap (listed (commands_from n s)) e

past : (n : ℕ) (s : List ℕ) (p : ℕ) → length s ≤ p → commands_from n s p ≡ []
unfolding commands_from
past zero s p h = refl
past (suc n) s p h = from-refused n s p (past_the_end s p h)

-- the number of commands allowed plays no part, if it is enough
same_from :
    (n m : ℕ) (s : List ℕ) (p : ℕ) → ((next : ℕ) → p < next → commands_from n s next ≡ commands_from m s next)
    → (o : Found) → command_at s p ≡ o → commands_from (suc n) s p ≡ commands_from (suc m) s p
same_from n m s p go (refused f q) e = from-refused n s p e ∙ sym (from-refused m s p e)
same_from n m s p go (found c next) e =
    from_found n s p e ∙ ap (λ (l : List Command). c ∷ l) (go next (next-after s p e).0) ∙ sym (from_found m s p e)

enough : (n m : ℕ) (s : List ℕ) (p : ℕ) → length s ≤ n + p → length s ≤ m + p → commands_from n s p ≡ commands_from m s p
enough zero m s p h k = past zero s p (omega arith) ∙ sym (past m s p (omega arith))
enough (suc n) zero s p h k = past (suc n) s p (omega arith) ∙ sym (past zero s p (omega arith))
enough (suc n) (suc m) s p h k = same_from n m s p (λ next less. enough n m s next (omega arith) (omega arith)) (command_at s p) refl

at-is : (s : List ℕ) (p : ℕ) → commands_at s p ≡ commands_from (length s) s p
unfolding commands_at
at-is s p = refl

module _ (s : List ℕ) (p : ℕ) where
  one_more : commands_at s p ≡ commands_from (suc (length s)) s p
  one_more = at-is s p ∙ enough (length s) (suc (length s)) s p (omega arith) (omega arith)

  pub commands-found : {c : Command} {next : ℕ} → command_at s p ≡ found c next → commands_at s p ≡ c ∷ commands_at s next
  commands-found {c} {next} e = one_more ∙ from_found (length s) s p e ∙ ap (λ (l : List Command). c ∷ l) (sym (at-is s next))

  pub commands-refused : {f : Refusal} {q : ℕ} → command_at s p ≡ refused f q → commands_at s p ≡ []
  commands-refused e = one_more ∙ from-refused (length s) s p e

pub commands-stand : {s : List ℕ} {o p : ℕ} {l : List Command} → Stand s o l p → commands_at s o ≡ l ++ commands_at s p
commands-stand nothing = refl
commands-stand {s} {o} (first {c = c} e r) = commands-found s o e ∙ ap (λ (l : List Command). c ∷ l) (commands-stand r)

-- WHAT THEY DECLARE
pub declared-is : (s : List ℕ) (p : ℕ) → declared_at s p ≡ declared (commands_at s p)
unfolding declared_at
declared-is s p = refl

pub sheet-is : (s : List ℕ) → sheet_of s ≡ (declared_at s 0).sheet
unfolding sheet_of declared_at
sheet-is s = refl
