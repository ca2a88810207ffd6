-- An accepted sheet is the bytes of the commands that the reader hands out, and their operands fit.
use Prim.Native.Nat.{ℕ, zero, suc, ◌^◌, ◌<◌}
use mathlib.Core.Path.{◌≡◌, refl, sym, ap, ◌∙◌}
use mathlib.Core.List.{List, [], ◌∷◌, ◌++◌}
use native.Mathlib.Omega.{arith}
use lib.ListN.{get_or, drop, drop_of_length-le, replicate}
use Rattle.model.specs.Ceilings.{value_range}
use Rattle.model.specs.Command.{LOAD, ADD, outside, inside}
use Rattle.model.specs.Command.{Command, WORD, BLOCK, TASK, RELEASE, END, body, row_by}
use Rattle.model.specs.Fault.{Known}
use Rattle.model.specs.Sheet.{accepted, verdict, commands_at}
use Rattle.model.specs.Encoding.{operands_of, widths_of, encode, encode_all, ValuesFit, Fits, OperandsFit}
use Rattle.model.proofs.Fit.Reading.{ReadFrom, lastly, firstly, read_all}
use Rattle.model.proofs.Encoding.Numbers.{Bytes}
use Rattle.model.proofs.Encoding.Commands.{as_many, bytes-again}
use Rattle.model.proofs.Encoding.Reading.{encode_cons, encode_one, append-nil}

module _ (s : List ℕ) (small : Bytes s) where
  read-bytes : {p : ℕ} {k : Known} {l : List Command} → ReadFrom s p k l → drop p s ≡ encode_all l
  read-bytes {p} (lastly {next = next} at past q) =
      bytes-again s small p next END at ∙ ap (λ (x : List ℕ). encode END ++ x) (drop_of_length-le s past) ∙ append-nil (encode END)
      ∙ sym (encode_one END)
  read-bytes {p} (firstly {next = next} {c = c} {l = l} at q e r) =
      bytes-again s small p next c at ∙ ap (λ (x : List ℕ). encode c ++ x) (read-bytes r) ∙ sym (encode_cons c l)

  pub sheet-bytes : verdict s ≡ accepted → s ≡ encode_all (commands_at s 0)
  unfolding commands_at
  sheet-bytes e = read-bytes (read_all s e)

-- operands that fit have values of 32 bits, a BLOCK has eight
values_below : (ws vs : List ℕ) → Fits ws vs → ((i : ℕ) → get_or ws i 4 ≡ 4) → (i : ℕ) → get_or vs i 0 < value_range
values_below [] [] f h i = omega arith
values_below [] (v ∷ vs) f h i = absurd f
values_below (w ∷ ws) [] f h i = absurd f
values_below (w ∷ ws) (v ∷ vs) f h zero = let below : v < 256 ^ 4 = rw (h 0) at f.0 in omega arith
values_below (w ∷ ws) (v ∷ vs) f h (suc i) = values_below ws vs f.1 (λ j. h (suc j)) i

abbrev fours : List ℕ
fours = 4 ∷ 4 ∷ 4 ∷ 4 ∷ 4 ∷ 4 ∷ 4 ∷ 4 ∷ []

all-four : (n i : ℕ) → ◌≡◌ {A = ℕ} (get_or (replicate n 4) i 4) 4
all-four zero i = refl
all-four (suc n) zero = refl
all-four (suc n) (suc i) = all-four n i

pub fits_values : (c : Command) → OperandsFit c → ValuesFit c
unfolding widths_of operands_of row_by
fits_values (WORD v) f = f.0
fits_values (BLOCK b) f = (as_many fours b.values f.1, values_below fours b.values f.1 (all-four 8))
fits_values TASK f = tt
fits_values (RELEASE r) f = tt
fits_values END f = tt
fits_values (body (LOAD r v)) f = f.1.0
fits_values (body (ADD r q)) f = tt
fits_values (body (outside c)) f = tt
fits_values (body (inside c)) f = tt
