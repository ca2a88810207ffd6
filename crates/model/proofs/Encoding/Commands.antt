-- A command that is written is decoded again, and the bytes that a command is decoded from are those that it is written as.
use Prim.Native.Nat.{ℕ, zero, suc, ◌+◌}
use mathlib.Core.Bool.{Bool, true, false}
use mathlib.Core.Path.{◌≡◌, refl, sym, ap, ◌∙◌, subst, fun_ext}
use mathlib.Core.List.{List, [], ◌∷◌, ◌++◌}
use mathlib.Core.Option.{some}
use native.Mathlib.Omega.{arith}
use borrow.Author.Tests.{lt-ltb, le-leb, eqb-true}
use lib.Dec.{eqb, ltb, leb}
use lib.ListN.{length, get_or, drop, length-append}
use lib.Seq.{get_or-append_seam, drop-cons}
use Rattle.model.specs.Command.{GET, PUT, READ, PAIR, SWAP, BEGIN, access, COMMIT, LOAD, ADD, outside, inside}
use Rattle.model.specs.Command.{Command, WORD, BLOCK, TASK, RELEASE, END, body, Row, table, row_by, row_of, total, big_endian, operand}
use Rattle.model.specs.Command.{found, found_byte, found_row, found_whole, command_at}
use Rattle.model.specs.Encoding.{byte_of, operands_of, widths_from, widths_of, operand_bytes, encode, Fits, OperandsFit}
use Rattle.model.proofs.Lists.{impossible}
use Rattle.model.proofs.Fit.Accepted.{EachRow, row-each}
use Rattle.model.proofs.Fit.Reading.{FoundAt}
use Rattle.model.proofs.Encoding.Numbers.{append_assoc, operand_back, operands_length, Bytes, operands_at, operands_fit, operands_again}

-- THE ROW OF A COMMAND
eight-values : (l : List ℕ) → length l ≡ 8
    → get_or l 0 0 ∷ get_or l 1 0 ∷ get_or l 2 0 ∷ get_or l 3 0 ∷ get_or l 4 0 ∷ get_or l 5 0 ∷ get_or l 6 0 ∷ get_or l 7 0 ∷ [] ≡ l
eight-values (a ∷ b ∷ c ∷ d ∷ e ∷ f ∷ g ∷ h ∷ []) q = refl
eight-values [] q = absurd (omega (arith, q))
eight-values (a ∷ []) q = absurd (omega (arith, q))
eight-values (a ∷ b ∷ []) q = absurd (omega (arith, q))
eight-values (a ∷ b ∷ c ∷ []) q = absurd (omega (arith, q))
eight-values (a ∷ b ∷ c ∷ d ∷ []) q = absurd (omega (arith, q))
eight-values (a ∷ b ∷ c ∷ d ∷ e ∷ []) q = absurd (omega (arith, q))
eight-values (a ∷ b ∷ c ∷ d ∷ e ∷ f ∷ []) q = absurd (omega (arith, q))
eight-values (a ∷ b ∷ c ∷ d ∷ e ∷ f ∷ g ∷ []) q = absurd (omega (arith, q))
eight-values (a ∷ b ∷ c ∷ d ∷ e ∷ f ∷ g ∷ h ∷ i ∷ l) q = absurd (omega (arith, q))

pub as_many : (ws vs : List ℕ) → Fits ws vs → length vs ≡ length ws
as_many [] [] f = refl
as_many [] (v ∷ vs) f = absurd f
as_many (w ∷ ws) [] f = absurd f
as_many (w ∷ ws) (v ∷ vs) f = ap suc (as_many ws vs f.1)

-- the row that the command's byte names makes the command of its operands
record RowOf (c : Command) : Type 0 where
  row : Row
  is : row_of (byte_of c) table ≡ some row
  makes : row.command (λ n. get_or (operands_of c) n 0) ≡ c

row-of : (c : Command) → OperandsFit c → RowOf c
unfolding row_of table byte_of operands_of row_by widths_of widths_from
row-of (WORD v) f = record { row = _; is = refl; makes = refl }
row-of (BLOCK b) f = record { row = _; is = refl; makes = ap (λ (l : List ℕ). BLOCK (record { version = b.version; values = l })) (eight-values b.values (as_many (4 ∷ 4 ∷ 4 ∷ 4 ∷ 4 ∷ 4 ∷ 4 ∷ 4 ∷ []) b.values f.1)) }
row-of TASK f = record { row = _; is = refl; makes = refl }
row-of (RELEASE r) f = record { row = _; is = refl; makes = refl }
row-of END f = record { row = _; is = refl; makes = refl }
row-of (body (LOAD r v)) f = record { row = _; is = refl; makes = refl }
row-of (body (ADD r q)) f = record { row = _; is = refl; makes = refl }
row-of (body (outside (READ r w))) f = record { row = _; is = refl; makes = refl }
row-of (body (outside (PAIR w o n))) f = record { row = _; is = refl; makes = refl }
row-of (body (outside (SWAP r))) f = record { row = _; is = refl; makes = refl }
row-of (body (outside BEGIN)) f = record { row = _; is = refl; makes = refl }
row-of (body (inside (access (GET r b o)))) f = record { row = _; is = refl; makes = refl }
row-of (body (inside (access (PUT b o r)))) f = record { row = _; is = refl; makes = refl }
row-of (body (inside COMMIT)) f = record { row = _; is = refl; makes = refl }

pub encode_of : (c : Command) → encode c ≡ byte_of c ∷ operand_bytes (widths_of c) (operands_of c)
unfolding encode
encode_of c = refl

-- DECODED AGAIN, wherever it stands
module _ (c : Command) (fits : OperandsFit c) where
  abbrev at_row : Row
  at_row = (row-of c fits).row

  widths_are : widths_of c ≡ at_row.widths
  unfolding widths_of widths_from
  widths_are = ap widths_from (row-of c fits).is

  encode-is : encode c ≡ byte_of c ∷ operand_bytes at_row.widths (operands_of c)
  encode-is = encode_of c ∙ ap (λ (ws : List ℕ). byte_of c ∷ operand_bytes ws (operands_of c)) widths_are

  row_fits : Fits at_row.widths (operands_of c)
  row_fits = subst (λ (ws : List ℕ). Fits ws (operands_of c)) widths_are fits

  pub encode-length : length (encode c) ≡ suc (total (widths_of c))
  encode-length = rw (encode-is, widths_are) (omega (arith, operands_length at_row.widths (operands_of c) row_fits))

  module _ (p q : List ℕ) where
    abbrev text : List ℕ
    text = p ++ (encode c ++ q)

    behind : text ≡ (p ++ (byte_of c ∷ [])) ++ (operand_bytes at_row.widths (operands_of c) ++ q)
    behind = rw encode-is (sym (append_assoc p (byte_of c ∷ []) (operand_bytes at_row.widths (operands_of c) ++ q)))

    one_more : length (p ++ (byte_of c ∷ [])) ≡ suc (length p)
    one_more = length-append p (byte_of c ∷ []) ∙ omega arith

    operands : (n : ℕ) → operand text (suc (length p)) at_row.widths n ≡ get_or (operands_of c) n 0
    operands n = rw (behind, ← one_more) (operand_back at_row.widths (operands_of c) (p ++ (byte_of c ∷ [])) q row_fits n)

    byte_here : get_or text (length p) 0 ≡ byte_of c
    byte_here = rw encode-is (get_or-append_seam p (byte_of c) (operand_bytes at_row.widths (operands_of c) ++ q) 0)

    size : length (encode c) ≡ suc (total at_row.widths)
    size = rw (← widths_are) encode-length

    long : length text ≡ length p + (suc (total at_row.widths) + length q)
    long = length-append p (encode c ++ q) ∙ omega (arith, length-append (encode c) q, size)

    pub command_back : command_at text (length p) ≡ found c (length p + length (encode c))
    unfolding command_at found_byte found_row found_whole
    command_back =
        let inside : ltb (length p) (length text) ≡ true = lt-ltb (length p) (length text) (omega (arith, long)) in
        let whole : leb (suc (length p) + total at_row.widths) (length text) ≡ true =
        le-leb (suc (length p) + total at_row.widths) (length text) (omega (arith, long)) in
        let made : at_row.command (λ n. operand text (suc (length p)) at_row.widths n) ≡ c =
        ap at_row.command (fun_ext operands) ∙ (row-of c fits).makes in
        let after : suc (length p) + total at_row.widths ≡ length p + length (encode c) = omega (arith, size) in
        rw (inside, byte_here, (row-of c fits).is, whole, made, after) refl

-- WRITTEN AGAIN: a command that is found in a list of bytes
row-byte : (b : ℕ) (rows : List Row) (r : Row) → row_of b rows ≡ some r → b ≡ r.byte
unfolding row_of row_by
row-byte b [] r e = impossible (cc)
row-byte b (x ∷ rows) r e = go (eqb b x.byte) refl e (row-byte b rows r)
  where
    go : (t : Bool) → eqb b x.byte ≡ t → row_by t x (row_of b rows) ≡ some r → (row_of b rows ≡ some r → b ≡ r.byte) → b ≡ r.byte
    go true q e on = let s : x ≡ r = cc in eqb-true b x.byte q ∙ ap (λ (z : Row). z.byte) s
    go false q e on = on e

-- the first n of the operands
abbrev firsts : ℕ → (ℕ → ℕ) → List ℕ
firsts zero o = []
firsts (suc n) o = o 0 ∷ firsts n (λ i. o (suc i))

-- each row makes commands of its byte and its operands
abbrev Made : Row → Type 0
Made r = (o : ℕ → ℕ) → (byte_of (r.command o) ≡ r.byte) × (operands_of (r.command o) ≡ firsts (length r.widths) o)

made : EachRow Made table
unfolding table byte_of operands_of
made = (
  λ o. (refl, refl),
  (
    λ o. (refl, refl),
    (
      λ o. (refl, refl),
      (
        λ o. (refl, refl),
        (
          λ o. (refl, refl),
          (
            λ o. (refl, refl),
            (
              λ o. (refl, refl),
              (
                λ o. (refl, refl),
                (
                  λ o. (refl, refl),
                  (λ o. (refl, refl), (λ o. (refl, refl), (λ o. (refl, refl), (λ o. (refl, refl), (λ o. (refl, refl), tt))))),
                ),
              ),
            ),
          ),
        ),
      ),
    ),
  ),
)

module _ (s : List ℕ) (small : Bytes s) where
  firsts_are : (p : ℕ) (ws : List ℕ) → firsts (length ws) (operand s p ws) ≡ operands_at s small p ws
  unfolding operand
  firsts_are p [] = refl
  firsts_are p (w ∷ ws) = ap (λ (l : List ℕ). big_endian s p w ∷ l) (firsts_are (p + w) ws)

  module _ (p next : ℕ) (c : Command) (f : FoundAt s p c next) where
    is_made : (byte_of c ≡ f.row.byte) × (operands_of c ≡ firsts (length f.row.widths) (operand s (suc p) f.row.widths))
    is_made =
        rw f.command (row-each Made (get_or s p 0) table made f.row f.byte (λ n. operand s (suc p) f.row.widths n))

    byte-is : byte_of c ≡ get_or s p 0
    byte-is = is_made.0 ∙ sym (row-byte (get_or s p 0) table f.row f.byte)

    operands_are : operands_of c ≡ operands_at s small (suc p) f.row.widths
    operands_are = is_made.1 ∙ firsts_are (suc p) f.row.widths

    widths-found : widths_of c ≡ f.row.widths
    unfolding widths_of widths_from
    widths-found = ap (λ (b : ℕ). widths_from (row_of b table)) byte-is ∙ ap widths_from f.byte

    pub found_fits : OperandsFit c
    found_fits = rw (widths-found, operands_are) (operands_fit s small (suc p) f.row.widths)

    encode-again : encode c ≡ get_or s p 0 ∷ operand_bytes f.row.widths (operands_at s small (suc p) f.row.widths)
    encode-again = encode_of c ∙ rw (byte-is, widths-found, operands_are) refl

    pub bytes-again : drop p s ≡ encode c ++ drop next s
    bytes-again =
        let here : drop p s ≡ get_or s p 0 ∷ drop (suc p) s = drop-cons s p 0 (omega (arith, f.onward, f.whole)) in
        let on : drop (suc p) s ≡ operand_bytes f.row.widths (operands_at s small (suc p) f.row.widths) ++ drop (suc p + total f.row.widths) s =
        operands_again s small (suc p) f.row.widths (omega (arith, f.onward, f.whole)) in
        rw (encode-again, f.onward) (here ∙ ap (λ (l : List ℕ). get_or s p 0 ∷ l) on)
