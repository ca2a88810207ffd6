-- A list passed one by one: how many are passed, and which are to come.
use Prim.Native.Nat.{ℕ, suc, ◌+◌, ◌<◌, ◌≤◌}
use mathlib.Core.Path.{◌≡◌, ap}
use mathlib.Core.List.{List, [], ◌∷◌}
use native.Mathlib.Omega.{arith}
use native.Mathlib.Numerals.{add-one}
use lib.ListN.{length, get_or, drop, length-drop}
use lib.Seq.{drop-cons}

-- n are passed, and these are to come
pub record Passed {A : Type 0} (all : List A) (n : ℕ) (rest : List A) : Type 0 where
  pub within : n ≤ length all
  pub left : drop n all ≡ rest

pub passed-all : {A : Type 0} {all : List A} {n : ℕ} → Passed all n [] → n ≡ length all
passed-all {all = all} {n = n} p = omega (arith, p.within, length-drop n all, ap length p.left)

module _ {A : Type 0} {all rest : List A} {n : ℕ} where
  module _ {v : A} (p : Passed all n (v ∷ rest)) where
    less : n < length all
    less = omega (arith, p.within, length-drop n all, ap length p.left)

    pub passed_here : (d : A) → get_or all n d ≡ v
    passed_here d =
        let split : drop n all ≡ get_or all n d ∷ drop (suc n) all = drop-cons all n d less in
        let e : drop n all ≡ v ∷ rest = p.left in
        cc

    pub passed-one : Passed all (n + 1) rest
    passed-one =
        let split : drop n all ≡ get_or all n v ∷ drop (suc n) all = drop-cons all n v less in
        let e : drop n all ≡ v ∷ rest = p.left in
        record { within = omega (arith, less); left = rw add-one (cc) }

pub none_passed : {A : Type 0} (all rest : List A) → all ≡ rest → Passed all 0 rest
none_passed all rest e = record { within = omega arith; left = e }
