-- The bytes of each command, so that the sheets of the cases read as commands.
use Prim.Native.Nat.{ℕ, ◌/◌, ◌%◌}
use mathlib.Core.List.{List, [], ◌∷◌, ◌++◌}

abbrev two : ℕ → List ℕ
two v = (v / 256) ∷ (v % 256) ∷ []

abbrev four : ℕ → List ℕ
four v = (v / 16777216) ∷ (v / 65536 % 256) ∷ (v / 256 % 256) ∷ (v % 256) ∷ []

abbrev pub join : List (List ℕ) → List ℕ
join [] = []
join (c ∷ l) = c ++ join l

abbrev pub word : ℕ → List ℕ
word v = 0x01 ∷ four v

-- version and eight values
abbrev pub block : ℕ → List ℕ → List ℕ
block version values = 0x02 ∷ four version ++ go values
  where
    go : List ℕ → List ℕ
    go [] = []
    go (v ∷ l) = four v ++ go l

abbrev pub task : List ℕ
task = 0x03 ∷ []

-- tick, task
abbrev pub release : ℕ → ℕ → List ℕ
release t p = 0x04 ∷ two t ++ (p ∷ [])

abbrev pub end : List ℕ
end = 0x05 ∷ []

-- register, value
abbrev pub load : ℕ → ℕ → List ℕ
load r v = 0x10 ∷ r ∷ four v

-- register, register
abbrev pub add : ℕ → ℕ → List ℕ
add r q = 0x11 ∷ r ∷ q ∷ []

-- register, word
abbrev pub read : ℕ → ℕ → List ℕ
read r w = 0x12 ∷ r ∷ w ∷ []

-- word, register of old, register of new
abbrev pub pair : ℕ → ℕ → ℕ → List ℕ
pair w o n = 0x13 ∷ w ∷ o ∷ n ∷ []

-- register for the answer
abbrev pub swap : ℕ → List ℕ
swap r = 0x14 ∷ r ∷ []

abbrev pub begin : List ℕ
begin = 0x20 ∷ []

-- register, block, offset
abbrev pub get : ℕ → ℕ → ℕ → List ℕ
get r b o = 0x21 ∷ r ∷ b ∷ o ∷ []

-- block, offset, register
abbrev pub put : ℕ → ℕ → ℕ → List ℕ
put b o r = 0x22 ∷ b ∷ o ∷ r ∷ []

abbrev pub commit : List ℕ
commit = 0x23 ∷ []
