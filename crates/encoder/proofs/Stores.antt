-- Bytes written at a buffer's start, others behind them, and a part of a buffer put back.
use Prim.Native.Nat.{ℕ, suc, ◌+◌, ◌*◌, ◌-◌, ◌<◌, ◌≤◌}
use mathlib.Core.Path.{◌≡◌, refl, sym, ap, ◌∙◌}
use mathlib.Core.List.{List, [], ◌∷◌, ◌++◌, append-nil, append_assoc}
use native.Mathlib.Omega.{arith}
use lib.ListN.{length, get_or, take, drop, length-append, length-drop}
use lib.Seq.{take-suc, length-take-le, take-length, drop-length, take-append_seam, drop-append_seam, drop-drop}
use Rattle.std.specs.Int.{to_be_bytes, w32}
use borrow.Rule.Slice.PartMut.{mid_of, put_mid}
use Rattle.model.specs.Builder.{overwrite}
use Rattle.encoder.specs.Operands.{four, fours, started}

-- NUMBERS IN FOUR BYTES
pub fours_append : (x y : List ℕ) → fours (x ++ y) ≡ fours x ++ fours y
fours_append [] y = refl
fours_append (v ∷ x) y = ap (λ (l : List ℕ). four v ++ l) (fours_append x y)

pub fours-length : (x : List ℕ) → length (fours x) ≡ 4 * length x
fours-length [] = refl
fours-length (v ∷ x) = omega (arith, fours-length x)

-- as the library writes them
pub be_four : (v : ℕ) → to_be_bytes w32 v ≡ four v
be_four v = grind arith

-- one more of them
pub fours_more : (l : List ℕ) (i : ℕ) → i < length l → fours (take (i + 1) l) ≡ fours (take i l) ++ four (get_or l i 0)
fours_more l i h =
    let next : i + 1 ≡ suc i = omega arith in
    rw next (ap fours (take-suc l i 0 h) ∙ fours_append (take i l) (get_or l i 0 ∷ []))

pub fours_take : (l : List ℕ) (i : ℕ) → i ≤ length l → length (fours (take i l)) ≡ 4 * i
fours_take l i h = fours-length (take i l) ∙ ap (λ (n : ℕ). 4 * n) (length-take-le i l h)

-- A PART PUT BACK
rest_written : (x y q : List ℕ)
    → put_mid (length x) (length (x ++ q) - length x) (x ++ q) (started y (mid_of (length x) (length (x ++ q) - length x) (x ++ q)))
    ≡ x ++ started y q
rest_written x y q =
    let size : length (x ++ q) - length x ≡ length q = omega (arith, length-append x q) in
    simp (size, take-append_seam, drop-append_seam, take-length, drop-length, append-nil)

-- bytes behind those that the buffer starts with
pub behind : (x y b c d : List ℕ) (n : ℕ) → n ≡ length x → c ≡ started x b → d ≡ started y (mid_of n (length c - n) c)
    → put_mid n (length c - n) c d ≡ started (x ++ y) b
behind x y b c d n e f g = rw (g, e, f) (rest_written x y (drop (length x) b) ∙ simp (append_assoc, length-append, drop-drop))

-- bytes at a place
pub placed : (x b d : List ℕ) (at : ℕ) → d ≡ started x (mid_of at (length b - at) b) → put_mid at (length b - at) b d ≡ overwrite b at x
unfolding overwrite
placed x b d at e =
    let size : length (drop at b) ≡ length b - at = length-drop at b in
    rw (e, ← size) (simp (take-length, drop-length, append-nil, drop-drop) (sym (append_assoc (take at b) x (drop (at + length x) b))))
