-- The state in 64 bytes: std's numbers of several bytes are the model's.
use Prim.Native.Nat.{ℕ, ◌<◌, ◌^◌}
use mathlib.Core.Path.{◌≡◌, refl, sym, ◌∙◌}
use mathlib.Core.Bool.{Bool, true, false, not}
use mathlib.Core.List.{List, [], ◌∷◌}
use native.Mathlib.Omega.{arith}
use lib.ListN.{take, replicate}
use Rattle.std.specs.Int.{w16, w32, w64, to_be_bytes, from_be_bytes}
use Rattle.std.proofs.lemmas.Nat.{from_be_bytes-to_be_bytes_2, from_be_bytes-to_be_bytes_4, from_be_bytes-to_be_bytes_8}
use Rattle.model.specs.Command.{big_endian}
use Rattle.model.specs.Builder.{nothing_filled}
use Rattle.builder.specs.Packed.{some?, body_of, state_of}
use mir.Val.{bool_byte}

two_bytes : (s : List ℕ) → from_be_bytes w16 s ≡ big_endian s 0 2
unfolding big_endian
two_bytes s = omega arith

four-bytes : (s : List ℕ) → from_be_bytes w32 s ≡ big_endian s 0 4
unfolding big_endian
four-bytes s = omega arith

eight-bytes : (s : List ℕ) → from_be_bytes w64 s ≡ big_endian s 0 8
unfolding big_endian
eight-bytes s = omega arith

-- what a row of a number's bytes gives back
pub two_back : (n : ℕ) → n < 2 ^ 16 → big_endian (to_be_bytes w16 n) 0 2 ≡ n
two_back n h = sym (two_bytes (to_be_bytes w16 n)) ∙ from_be_bytes-to_be_bytes_2 n h

pub four_back : (n : ℕ) → n < 2 ^ 32 → big_endian (to_be_bytes w32 n) 0 4 ≡ n
four_back n h = sym (four-bytes (to_be_bytes w32 n)) ∙ from_be_bytes-to_be_bytes_4 n h

pub eight_back : (n : ℕ) → n < 2 ^ 64 → big_endian (to_be_bytes w64 n) 0 8 ≡ n
eight_back n h = sym (eight-bytes (to_be_bytes w64 n)) ∙ from_be_bytes-to_be_bytes_8 n h

-- a flag as a byte
pub flagged : (b : Bool) → some? (bool_byte b) ≡ b
flagged true = refl
flagged false = refl

pub body_back : (pairs touched puts p t u : List ℕ) (e i : Bool) (f n g m o x y z : ℕ) → some? f ≡ not e → take n pairs ≡ p → some? g ≡ i
    → take m touched ≡ t → take o puts ≡ u
    → body_of (f ∷ n ∷ g ∷ m ∷ o ∷ x ∷ y ∷ z ∷ []) pairs touched puts ≡ record { empty = e; pairs = p; inside = i; touched = t; puts = u }
unfolding body_of
body_back pairs touched puts p t u e i f n g m o x y z a b c d h = rw (a, b, c, d, h, twice e) refl
  where
    twice : (e : Bool) → not (not e) ≡ e
    twice true = refl
    twice false = refl

-- nothing is filled where all bytes are 0
pub start_is : state_of (replicate 8 (replicate 8 0)) ≡ nothing_filled
unfolding state_of
start_is = refl
