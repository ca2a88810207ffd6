-- `decimal` is right for every number: its bytes are digits, the first is 0 for the number 0 alone, and read back they are the number.
use Prim.Native.Nat.{ℕ, zero, suc, ◌+◌, ◌*◌, ◌-◌, ◌/◌, ◌%◌, ◌≤◌, ◌<◌}
use mathlib.Core.Bool.{Bool, true, false}
use mathlib.Core.Path.{◌≡◌, refl, sym, ap, ◌∙◌}
use mathlib.Core.List.{List, [], ◌∷◌}
use native.Mathlib.Omega.{arith}
use lib.Dec.{ltb}
use borrow.Author.Tests.{ltb-true, ltb-false, lt-ltb, le-ltb}
use Rattle.model.specs.Report.{digits, decimal}

-- WHAT DECIMAL DIGITS ARE
abbrev pub Digit : ℕ → Type 0
Digit b = (0x30 ≤ b) × (b ≤ 0x39)

abbrev pub AllDigits : List ℕ → Type 0
AllDigits [] = Unit {0}
AllDigits (b ∷ l) = Digit b × AllDigits l

-- the number that digits give after those of v
unfoldable pub read_from : ℕ → List ℕ → ℕ
read_from v [] = v
read_from v (b ∷ l) = read_from (v * 10 + (b - 0x30)) l

-- there is a first digit, and it is 0 for v = 0 alone
pub data Leads (v : ℕ) : List ℕ → Type 0 where
  leads : (b : ℕ) (l : List ℕ) → (b ≡ 0x30 → v ≡ 0) → Leads v (b ∷ l)

pub record Decimal (v : ℕ) (l : List ℕ) : Type 0 where
  pub reads : read_from 0 l ≡ v
  pub bytes : AllDigits l
  pub first : Leads v l

-- a number of eleven digits, by computation
pub eleven_digits : decimal 42949672961 ≡ 0x34 ∷ 0x32 ∷ 0x39 ∷ 0x34 ∷ 0x39 ∷ 0x36 ∷ 0x37 ∷ 0x32 ∷ 0x39 ∷ 0x36 ∷ 0x31 ∷ []
unfolding digits
eleven_digits = refl

-- ONE DIGIT
small? : {P : Type 0} (v : ℕ) → (v < 10 → P) → (10 ≤ v → P) → P
small? {P} v f g = go (ltb v 10) refl
  where
    go : (b : Bool) → ltb v 10 ≡ b → P
    go true e = f (ltb-true v 10 e)
    go false e = g (ltb-false v 10 e)

only : (n v : ℕ) (follow : List ℕ) → v < 10 → digits (suc n) v follow ≡ (0x30 + v) ∷ follow
unfolding digits
only n v follow h = rw (lt-ltb v 10 h)

more : (n v : ℕ) (follow : List ℕ) → 10 ≤ v → digits (suc n) v follow ≡ digits n (v / 10) ((0x30 + v % 10) ∷ follow)
unfolding digits
more n v follow h = rw (le-ltb v 10 h)

-- any two counts of steps that are more than v give the same digits
enough : (n k v : ℕ) (follow : List ℕ) → v < n → v < k → digits n v follow ≡ digits k v follow
enough zero k v follow a b = elim a [ ]
enough (suc n) zero v follow a b = elim b [ ]
enough (suc n) (suc k) v follow a b =
    small? v
    (λ h. only n v follow h ∙ sym (only k v follow h))
    (λ h. more n v follow h ∙ enough n k (v / 10) ((0x30 + v % 10) ∷ follow) (omega arith) (omega arith) ∙ sym (more k v follow h))

-- with v + 1 steps: a number of one digit, and the last digit of a greater one
pub one_digit : (v : ℕ) (follow : List ℕ) → v < 10 → digits (suc v) v follow ≡ (0x30 + v) ∷ follow
one_digit v follow h = only v v follow h

pub last_digit : (v : ℕ) (follow : List ℕ) → 10 ≤ v → digits (suc v) v follow ≡ digits (suc (v / 10)) (v / 10) ((0x30 + v % 10) ∷ follow)
last_digit v follow h = more v v follow h ∙ enough v (suc (v / 10)) (v / 10) ((0x30 + v % 10) ∷ follow) (omega arith) (omega arith)

-- THE THEOREM, first for digits in front of others
reads : (n v : ℕ) (follow : List ℕ) → v < n → read_from 0 (digits n v follow) ≡ read_from v follow
unfolding read_from
reads zero v follow a = elim a [ ]
reads (suc n) v follow a =
    small? v
    (λ h. rw (only n v follow h) (ap (λ (x : ℕ). read_from x follow) (omega arith)))
    (λ h. rw (more n v follow h) (reads n (v / 10) ((0x30 + v % 10) ∷ follow) (omega arith) ∙ ap (λ (x : ℕ). read_from x follow) (omega arith)))

bytes : (n v : ℕ) (follow : List ℕ) → v < n → AllDigits follow → AllDigits (digits n v follow)
bytes zero v follow a d = elim a [ ]
bytes (suc n) v follow a d =
    small? v
    (λ h. rw (only n v follow h) ((omega arith, omega arith), d))
    (λ h. rw (more n v follow h) (bytes n (v / 10) ((0x30 + v % 10) ∷ follow) (omega arith) ((omega arith, omega arith), d)))

first : (n v w : ℕ) (follow : List ℕ) → v < n → (v ≡ 0 → w ≡ 0) → Leads w (digits n v follow)
first zero v w follow a e = elim a [ ]
first (suc n) v w follow a e =
    small? v
    (λ h. rw (only n v follow h) (leads (0x30 + v) follow (λ z. e (omega arith))))
    (λ h. rw (more n v follow h) (first n (v / 10) w ((0x30 + v % 10) ∷ follow) (omega arith) (λ z. absurd (omega arith))))

pub decimal_right : (v : ℕ) → Decimal v (decimal v)
unfolding read_from
decimal_right v = record {
  reads = reads (suc v) v [] (omega arith);
  bytes = bytes (suc v) v [] (omega arith) tt;
  first = first (suc v) v v [] (omega arith) (λ z. z);
}
