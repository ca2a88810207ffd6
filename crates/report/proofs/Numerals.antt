-- The digits of a number, written from the last to the first.
use Prim.Native.Nat.{ℕ, zero, suc, ◌+◌, ◌*◌, ◌-◌, ◌/◌, ◌%◌, ◌≤◌, ◌<◌, ◌^◌}
use mathlib.Core.Path.{◌≡◌, sym, ap, ◌∙◌}
use mathlib.Core.List.{List, ◌∷◌}
use native.Mathlib.Nat.{pow-suc}
use native.Mathlib.Numerals.{add-one}
use native.Mathlib.Omega.{arith}
use lib.ListN.{length, set, drop, length-set, drop_of_length-le}
use lib.Seq.{drop-cons, drop-set-lt, get_or-set_same}
use Rattle.model.specs.Report.{decimal, digits}
use Rattle.model.proofs.Decimal.{one_digit, last_digit}

-- a digit stored before the others
stored : (text : List ℕ) (i a : ℕ) → i < length text → drop i (set text i a) ≡ a ∷ drop (i + 1) text
stored text i a h =
    let inside : i < length (set text i a) = rw length-set h in
    rw (drop-cons (set text i a) i 0 inside, get_or-set_same text i a 0 h, drop-set-lt (suc i) text i a (omega arith), add-one)

-- The digits of `rest` are still to be stored, from the place `first` down.
pub record Left (value : ℕ) (text : List ℕ) (rest first : ℕ) : Type 0 where
  pub whole : length text ≡ 10
  pub inside : first < 10
  pub small : rest < 10 ^ (first + 1)
  pub same : decimal value ≡ digits (suc rest) rest (drop (first + 1) text)

module _ {value rest first : ℕ} {text : List ℕ} (l : Left value text rest first) where
  pub further : 10 ≤ rest → 1 ≤ first
  further h = go first l.small
    where
      go : (n : ℕ) → rest < 10 ^ (n + 1) → 1 ≤ n
      go zero lt = absurd (omega arith)
      go (suc n) lt = omega arith

  -- a digit from the end is stored
  pub stored_next : 10 ≤ rest → Left value (set text first (0x30 + rest % 10)) (rest / 10) (first - 1)
  stored_next h =
      let pos : 1 ≤ first = further h in
      let e : first - 1 + 1 ≡ first = omega arith in
      let power : 10 ^ (first + 1) ≡ 10 ^ first * 10 = rw add-one (pow-suc 10 first) in
      record {
        whole = rw length-set l.whole;
        inside = omega (arith, l.inside);
        small = rw e (omega (arith, power, l.small));
        same =
            rw (e, stored text first (0x30 + rest % 10) (omega (arith, l.whole, l.inside))) (l.same ∙ last_digit rest (drop (first + 1) text) h);
      }

  -- the first digit is stored
  pub stored-first : rest < 10 → drop first (set text first (0x30 + rest)) ≡ decimal value
  stored-first h =
      rw (stored text first (0x30 + rest) (omega (arith, l.whole, l.inside)), l.same, one_digit rest (drop (first + 1) text) h)

pub whole-number : (value : ℕ) (text : List ℕ) → length text ≡ 10 → value < 4294967296 → Left value text value 9
whole-number value text whole fits =
    record {
      whole = whole;
      inside = omega arith;
      small = omega arith;
      same = ap (digits (suc value) value) (sym (drop_of_length-le text {i = 10} (omega arith)));
    }
