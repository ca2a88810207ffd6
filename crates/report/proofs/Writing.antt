-- Texts that are written one after another: byte by byte, number by number, line by line.
use Prim.Native.Nat.{ℕ, suc, ◌+◌, ◌*◌, ◌-◌, ◌≤◌, ◌<◌}
use mathlib.Core.Path.{◌≡◌, refl, sym, ap, ◌∙◌}
use mathlib.Core.List.{List, [], ◌∷◌, ◌++◌, map, map-id}
use native.Mathlib.Nat.{add-zero, zero-add, mul-zero, mul-suc}
use native.Mathlib.Numerals.{add-one}
use native.Mathlib.Omega.{arith}
use lib.ListN.{length, get_or, set, take, drop, length-append, length-drop}
use lib.Seq.{sets, take-suc, take-length, take_all}
use Rattle.model.specs.Report.{decimal, line, lines}
use Rattle.report.specs.Writing.{Wrote}
use Rattle.report.specs.declared.text.Writer.{Writer}
use Rattle.report.proofs.Lines.{lines-last, spaced, spaced-last, spaced_end}

sets_append : (x y b : List ℕ) (i : ℕ) → sets b i (x ++ y) ≡ sets (sets b i x) (i + length x) y
sets_append [] y b i = ap (λ (k : ℕ). sets b k y) (sym (add-zero i))
sets_append (a ∷ x) y b i =
    let e : suc i + length x ≡ i + suc (length x) = omega arith in
    sets_append x y (set b i a) (suc i) ∙ ap (λ (k : ℕ). sets (sets (set b i a) (suc i) x) k y) e

pub nothing : (w : Writer) → Wrote 0 [] w w
nothing w = record { same_reference = refl; written = record { bytes = refl; place = omega arith; room = omega arith } }

pub then : {m n : ℕ} {s t : List ℕ} {u v w : Writer} → Wrote m s u v → Wrote n t v w → Wrote (m + n) (s ++ t) u w
then {s = s} {t} {u} {v} a b =
    record {
      same_reference = b.same_reference ∙ a.same_reference;
      written = record {
        bytes =
            b.written.bytes
            ∙ ap (λ (x : List ℕ). sets x v.place t) a.written.bytes
            ∙ ap (λ (x : ℕ). sets (sets u.buffer.now u.place s) x t) a.written.place
            ∙ sym (sets_append s t u.buffer.now u.place);
        place = omega (arith, a.written.place, b.written.place, length-append s t);
        room = omega (arith, a.written.room, b.written.room);
      };
    }

-- the same text by another name, with a wider bound
pub as_text : {m n : ℕ} {s t : List ℕ} {u w : Writer} → s ≡ t → m ≤ n → Wrote m s u w → Wrote n t u w
as_text {u = u} e h a =
    record {
      same_reference = a.same_reference;
      written = record {
        bytes = a.written.bytes ∙ ap (λ (x : List ℕ). sets u.buffer.now u.place x) e;
        place = a.written.place ∙ ap (λ (x : List ℕ). u.place + length x) e;
        room = omega (arith, a.written.room);
      };
    }

-- one more byte of a text, and all of them
pub byte_more : {u v w : Writer} (i : ℕ) (l : List ℕ) → i < length l → Wrote i (take i l) u v → Wrote 1 (get_or l i 0 ∷ []) v w
    → Wrote (i + 1) (take (i + 1) l) u w
byte_more i l h a b = rw (add-one i, take-suc l i 0 h, ← add-one i) (then a b)

pub all-bytes : {u w : Writer} (l : List ℕ) → Wrote (length l) (take (length l) l) u w → Wrote (length l) l u w
all-bytes l a = rw (take-length l) at a

-- one more number of a line
pub number_more : {t u v w : Writer} (l : List ℕ) (value : ℕ) → Wrote (11 * length l) (spaced l) t u
    → Wrote 1 (0x20 ∷ []) u v → Wrote 10 (decimal value) v w
    → Wrote (11 * length (l ++ (value ∷ []))) (spaced (l ++ (value ∷ []))) t w
number_more l value a b c =
    as_text (sym (spaced-last l value)) (omega (arith, length-append l (value ∷ []))) (then a (then b c))

-- a letter, all the numbers and the line's end
pub whole_line : {letter : ℕ} {t u v w : Writer} (first others l : List ℕ) → map (λ x. x) l ≡ first ++ others
    → Wrote 1 (letter ∷ []) t u → Wrote (11 * length l) (spaced l) u v → Wrote 1 (0x0A ∷ []) v w
    → Wrote (11 * (length first + length others) + 2) (line letter (first ++ others)) t w
whole_line {letter} first others l e a b c =
    let same : l ≡ first ++ others = sym (map-id l) ∙ e in
    let text : (letter ∷ []) ++ spaced l ++ (0x0A ∷ []) ≡ line letter (first ++ others) =
    ap (λ (x : List ℕ). letter ∷ x) (spaced_end l) ∙ ap (λ (x : List ℕ). line letter x) same in
    as_text text (omega (arith, ap length same, length-append first others)) (then a (then b c))

-- no line, and one more
pub no_lines : (m : ℕ) (f : ℕ → List ℕ) (w : Writer) → Wrote (m * 0) (lines 0 0 f) w w
unfolding lines
no_lines m f w = rw (mul-zero m) (nothing w)

pub line_more : {m n : ℕ} {s : List ℕ} {u v w : Writer} (f : ℕ → List ℕ) → s ≡ f n → Wrote (m * n) (lines n 0 f) u v → Wrote m s v w
    → Wrote (m * (n + 1)) (lines (n + 1) 0 f) u w
line_more {m} {n} f e a b = rw (add-one n, lines-last n 0 f, mul-suc m n, zero-add n, ← e) (then a b)

-- a part of a text that goes to its end
pub to_the_end : {m k : ℕ} {t : List ℕ} {u w : Writer} (l : List ℕ) (i n : ℕ) → Wrote m (take (n - i) (drop i l)) u w → drop i l ≡ t
    → length l ≤ n → m ≤ k → Wrote k t u w
to_the_end l i n a e h wide = as_text (take_all (n - i) (drop i l) (simp length-drop (omega arith)) ∙ e) wide a
