-- The reader on written commands: those without a fault are passed one after another, and the verdict is that of what follows.
use Prim.Native.Nat.{ℕ, suc, ◌+◌}
use mathlib.Core.Bool.{true, false}
use mathlib.Core.Path.{◌≡◌, refl, sym, ap, ◌∙◌}
use mathlib.Core.List.{List, [], ◌∷◌, ◌++◌}
use mathlib.Core.Option.{none, some}
use native.Mathlib.Omega.{arith}
use lib.Dec.{ltb}
use lib.ListN.{length, length-append}
use Rattle.model.specs.Refusal.{Refusal}
use Rattle.model.specs.Command.{Command, found, command_at}
use Rattle.model.specs.Fault.{Known, fault_of}
use Rattle.model.specs.Sheet.{after, end?, turned_down, at_end, judge_end, judge_fault, judge, verdict_from}
use Rattle.model.specs.Encoding.{encode, encode_all, OperandsFit}
use Rattle.model.proofs.Encoding.Numbers.{append_assoc}
use Rattle.model.proofs.Encoding.Commands.{command_back}

-- these commands, none of them END, are without fault one after another, and their operands fit
pub data Passes : Known → List Command → Known → Type 0 where
  nothing : {k : Known} → Passes k [] k
  first : {k m : Known} {c : Command} {l : List Command} → fault_of k c ≡ none → end? c ≡ false → OperandsFit c → Passes (after k c) l m
      → Passes k (c ∷ l) m

pub one_more : {k m : Known} {l : List Command} (c : Command) → Passes k l m → fault_of m c ≡ none → end? c ≡ false → OperandsFit c
    → Passes k (l ++ (c ∷ [])) (after m c)
one_more c nothing e f w = first e f w nothing
one_more c (first g h v r) e f w = first g h v (one_more c r e f w)

pub encode_cons : (c : Command) (l : List Command) → encode_all (c ∷ l) ≡ encode c ++ encode_all l
unfolding encode_all
encode_cons c l = refl

pub encode_append : (l r : List Command) → encode_all (l ++ r) ≡ encode_all l ++ encode_all r
unfolding encode_all
encode_append [] r = refl
encode_append (c ∷ l) r = ap (λ (x : List ℕ). encode c ++ x) (encode_append l r) ∙ sym (append_assoc (encode c) (encode_all l) (encode_all r))

pub append-nil : (l : List ℕ) → l ++ [] ≡ l
append-nil [] = refl
append-nil (x ∷ l) = ap (λ (z : List ℕ). x ∷ z) (append-nil l)

pub encode_one : (c : Command) → encode_all (c ∷ []) ≡ encode c
unfolding encode_all
encode_one c = append-nil (encode c)

-- ONE COMMAND, found at a place
module _ (n : ℕ) (s : List ℕ) (p : ℕ) (k : Known) {c : Command} {next : ℕ} (e : command_at s p ≡ found c next) where
  judged : verdict_from (suc n) s p k ≡ judge_fault (verdict_from n s) s p k c next (fault_of k c)
  unfolding verdict_from judge
  judged = ap (judge (verdict_from n s) s p k) e

  pub goes_on : fault_of k c ≡ none → end? c ≡ false → verdict_from (suc n) s p k ≡ verdict_from n s next (after k c)
  unfolding judge_fault judge_end
  goes_on f g = judged ∙ rw (f, g) refl

  pub stops : (f : Refusal) → fault_of k c ≡ some f → verdict_from (suc n) s p k ≡ turned_down f p
  unfolding judge_fault
  stops f g = judged ∙ rw g refl

  pub ends : fault_of k c ≡ none → end? c ≡ true → verdict_from (suc n) s p k ≡ at_end (ltb next (length s)) next
  unfolding judge_fault judge_end
  ends f g = judged ∙ rw (f, g) refl

-- MANY
-- the texts before, of the commands, and after them
module _ (p : List ℕ) (c : Command) (l : List Command) (q : List ℕ) where
  pub shifted : p ++ (encode_all (c ∷ l) ++ q) ≡ (p ++ encode c) ++ (encode_all l ++ q)
  shifted =
      ap (λ (x : List ℕ). p ++ (x ++ q)) (encode_cons c l) ∙ ap (λ (x : List ℕ). p ++ x) (append_assoc (encode c) (encode_all l) q)
      ∙ sym (append_assoc p (encode c) (encode_all l ++ q))

  pub first_found : OperandsFit c → command_at (p ++ (encode_all (c ∷ l) ++ q)) (length p) ≡ found c (length (p ++ encode c))
  first_found w =
      let text : p ++ (encode_all (c ∷ l) ++ q) ≡ p ++ (encode c ++ (encode_all l ++ q)) =
      ap (λ (x : List ℕ). p ++ (x ++ q)) (encode_cons c l) ∙ ap (λ (x : List ℕ). p ++ x) (append_assoc (encode c) (encode_all l) q) in
      rw (text, length-append p (encode c)) (command_back c w p (encode_all l ++ q))

no_more : (p : List ℕ) → p ++ encode_all [] ≡ p
unfolding encode_all
no_more p = append-nil p

-- the verdict after commands that pass
pub passed : {k m : Known} {l : List Command} → Passes k l m → (n : ℕ) (p q : List ℕ)
    → verdict_from (length l + n) (p ++ (encode_all l ++ q)) (length p) k
    ≡ verdict_from n (p ++ (encode_all l ++ q)) (length (p ++ encode_all l)) m
passed {k} nothing n p q =
    let same : 0 + n ≡ n = omega arith in
    rw (same, no_more p) refl
passed {k} (first {c = c} {l = l} e f w r) n p q =
    let more : suc (length l) + n ≡ suc (length l + n) = omega arith in
    let there : (p ++ encode c) ++ encode_all l ≡ p ++ encode_all (c ∷ l) =
    append_assoc p (encode c) (encode_all l) ∙ ap (λ (x : List ℕ). p ++ x) (sym (encode_cons c l)) in
    rw (more, goes_on (length l + n) _ (length p) k (first_found p c l q w) e f, shifted p c l q, ← there) (passed r n (p ++ encode c) q)
