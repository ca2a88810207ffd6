-- Numbers written big-endian are read back, and bytes that are read as a number are those that it is written as.
use Prim.Native.Nat.{ℕ, zero, suc, ◌+◌, ◌*◌, ◌/◌, ◌%◌, ◌^◌, ◌<◌, ◌≤◌}
use mathlib.Core.Path.{◌≡◌, refl, sym, ap, ◌∙◌}
use mathlib.Core.List.{List, [], ◌∷◌, ◌++◌}
use native.Mathlib.Nat.{mod-add-div, pow-succ', pow-zero}
use native.Mathlib.Omega.{arith}
use lib.ListN.{length, get_or, drop, length-append}
use lib.Seq.{get_or-append-add, get_or-append_seam, drop-cons}
use Rattle.model.specs.Command.{total, big_endian, operand}
use Rattle.model.specs.Encoding.{bytes_of, operand_bytes, Fits}

pub append_assoc : {A : Type 0} (a b c : List A) → (a ++ b) ++ c ≡ a ++ (b ++ c)
append_assoc [] b c = refl
append_assoc {A} (x ∷ a) b c = ap (λ (l : List A). x ∷ l) (append_assoc a b c)

-- READ BACK
pub bytes-length : (w v : ℕ) → length (bytes_of w v) ≡ w
unfolding bytes_of
bytes-length zero v = refl
bytes-length (suc w) v = length-append (bytes_of w (v / 256)) (v % 256 ∷ []) ∙ omega (arith, bytes-length w (v / 256))

number_back : (w v : ℕ) (p q : List ℕ) → v < 256 ^ w → big_endian (p ++ (bytes_of w v ++ q)) (length p) w ≡ v
unfolding bytes_of big_endian
number_back zero v p q h = let one : v < 1 = rw (pow-zero 256) at h in omega arith
number_back (suc w) v p q h =
    let big : v < 256 * 256 ^ w = rw (pow-succ' 256 w) at h in
    let high : v / 256 < 256 ^ w = div_small v (256 ^ w) big in
    let apart : p ++ ((bytes_of w (v / 256) ++ (v % 256 ∷ [])) ++ q) ≡ p ++ (bytes_of w (v / 256) ++ (v % 256 ∷ q)) =
    ap (λ (l : List ℕ). p ++ l) (append_assoc (bytes_of w (v / 256)) (v % 256 ∷ []) q) in
    let most : big_endian (p ++ (bytes_of w (v / 256) ++ (v % 256 ∷ q))) (length p) w ≡ v / 256 =
    number_back w (v / 256) p (v % 256 ∷ q) high in
    let low : get_or (p ++ (bytes_of w (v / 256) ++ (v % 256 ∷ q))) (length p + w) 0 ≡ v % 256 = last_byte w (v / 256) p (v % 256) q in
    let whole : big_endian (p ++ ((bytes_of w (v / 256) ++ (v % 256 ∷ [])) ++ q)) (length p) w ≡ v / 256 =
    ap (λ (l : List ℕ). big_endian l (length p) w) apart ∙ most in
    rw (whole, apart, low) (omega (arith, mod-add-div v 256))
  where
    div_small : (v m : ℕ) → v < 256 * m → v / 256 < m
    div_small v m h = omega arith

    last_byte : (w u : ℕ) (p : List ℕ) (b : ℕ) (q : List ℕ) → get_or (p ++ (bytes_of w u ++ (b ∷ q))) (length p + w) 0 ≡ b
    last_byte w u p b q =
        get_or-append-add p (bytes_of w u ++ (b ∷ q)) w 0 ∙ ap (λ (i : ℕ). get_or (bytes_of w u ++ (b ∷ q)) i 0) (sym (bytes-length w u))
        ∙ get_or-append_seam (bytes_of w u) b q 0

pub operand_back : (ws vs p q : List ℕ) → Fits ws vs → (n : ℕ) → operand (p ++ (operand_bytes ws vs ++ q)) (length p) ws n ≡ get_or vs n 0
unfolding operand operand_bytes
operand_back [] [] p q f n = refl
operand_back [] (v ∷ vs) p q f n = absurd f
operand_back (w ∷ ws) [] p q f n = absurd f
operand_back (w ∷ ws) (v ∷ vs) p q f zero =
    rw (append_assoc (bytes_of w v) (operand_bytes ws vs) q) (number_back w v p (operand_bytes ws vs ++ q) f.0)
operand_back (w ∷ ws) (v ∷ vs) p q f (suc n) =
    let apart : p ++ ((bytes_of w v ++ operand_bytes ws vs) ++ q) ≡ (p ++ bytes_of w v) ++ (operand_bytes ws vs ++ q) =
    ap (λ (l : List ℕ). p ++ l) (append_assoc (bytes_of w v) (operand_bytes ws vs) q)
    ∙ sym (append_assoc p (bytes_of w v) (operand_bytes ws vs ++ q)) in
    let place : length p + w ≡ length (p ++ bytes_of w v) = omega (arith, length-append p (bytes_of w v), bytes-length w v) in
    ap (λ (l : List ℕ). operand l (length p + w) ws n) apart
    ∙ ap (λ (i : ℕ). operand ((p ++ bytes_of w v) ++ (operand_bytes ws vs ++ q)) i ws n) place
    ∙ operand_back ws vs (p ++ bytes_of w v) q f.1 n

pub operands_length : (ws vs : List ℕ) → Fits ws vs → length (operand_bytes ws vs) ≡ total ws
unfolding operand_bytes total
operands_length [] [] f = refl
operands_length [] (v ∷ vs) f = absurd f
operands_length (w ∷ ws) [] f = absurd f
operands_length (w ∷ ws) (v ∷ vs) f =
    length-append (bytes_of w v) (operand_bytes ws vs) ∙ omega (arith, bytes-length w v, operands_length ws vs f.1)

-- WRITTEN AGAIN: from a place of a list of bytes on
abbrev pub Bytes : List ℕ → Type 0
Bytes s = (i : ℕ) → get_or s i 0 < 256

module _ (s : List ℕ) (small : Bytes s) where
  pub number_fits : (p w : ℕ) → big_endian s p w < 256 ^ w
  unfolding big_endian
  number_fits p zero = rw (pow-zero 256) (omega arith)
  number_fits p (suc w) = rw (pow-succ' 256 w) (omega (arith, number_fits p w, small (p + w)))

  -- the bytes of the number that stands at a place, before those that follow
  number-again : (p w : ℕ) (q : List ℕ) → p + w ≤ length s → drop (p + w) s ≡ q → drop p s ≡ bytes_of w (big_endian s p w) ++ q
  unfolding bytes_of big_endian
  number-again p zero q h e = let same : p + 0 ≡ p = omega arith in rw same at e
  number-again p (suc w) q h e =
      let b : ℕ = get_or s (p + w) 0 in
      let v : ℕ = big_endian s p w in
      let high : (v * 256 + b) / 256 ≡ v = omega (arith, small (p + w)) in
      let low : (v * 256 + b) % 256 ≡ b = omega (arith, small (p + w)) in
      let here : drop (p + w) s ≡ b ∷ drop (suc (p + w)) s = drop-cons s (p + w) 0 (omega arith) in
      let next : p + suc w ≡ suc (p + w) = omega arith in
      let on : drop (p + w) s ≡ b ∷ q = here ∙ ap (λ (l : List ℕ). b ∷ l) (rw next at e) in
      rw (high, low) (number-again p w (b ∷ q) (omega arith) on ∙ sym (append_assoc (bytes_of w v) (b ∷ []) q))

  -- the operands that stand at a place, as many as there are widths
  abbrev pub operands_at : ℕ → List ℕ → List ℕ
  operands_at p [] = []
  operands_at p (w ∷ ws) = big_endian s p w ∷ operands_at (p + w) ws

  pub operands_fit : (p : ℕ) (ws : List ℕ) → Fits ws (operands_at p ws)
  operands_fit p [] = tt
  operands_fit p (w ∷ ws) = (number_fits p w, operands_fit (p + w) ws)

  pub operands_again : (p : ℕ) (ws : List ℕ) → p + total ws ≤ length s → drop p s ≡ operand_bytes ws (operands_at p ws) ++ drop (p + total ws) s
  unfolding operand_bytes total
  operands_again p [] h = let same : p ≡ p + 0 = omega arith in ap (λ (i : ℕ). drop i s) same
  operands_again p (w ∷ ws) h =
      let same : p + w + total ws ≡ p + (w + total ws) = omega arith in
      let rest : drop (p + w) s ≡ operand_bytes ws (operands_at (p + w) ws) ++ drop (p + (w + total ws)) s =
      rw (← same) (operands_again (p + w) ws (omega arith)) in
      number-again p w _ (omega arith) rest ∙ sym (append_assoc (bytes_of w (big_endian s p w)) (operand_bytes ws (operands_at (p + w) ws)) _)
