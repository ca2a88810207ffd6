-- The verdict on written commands: the next command's fault at its place, the end, and the commands handed out again.
use Prim.Native.Nat.{ℕ, zero, suc, ◌+◌, ◌-◌, ◌<◌, ◌≤◌}
use mathlib.Core.Bool.{Bool, true, false}
use mathlib.Core.Path.{◌≡◌, refl, sym, ap, ◌∙◌}
use mathlib.Core.List.{List, [], ◌∷◌, ◌++◌}
use mathlib.Core.Option.{Option, none, some}
use native.Mathlib.Omega.{arith}
use borrow.Author.Tests.{lt-ltb, le-ltb}
use lib.Dec.{ltb, leb}
use lib.ListN.{length, get_or, length-append}
use Rattle.model.specs.Refusal.{Refusal, byte_after_end}
use Rattle.model.specs.Command.{Command, END, Row, table, row_by, row_of, total, Found, found, refused, found_whole, found_row, found_byte, command_at}
use Rattle.model.specs.Fault.{Known, nothing_known, fault_of}
use Rattle.model.specs.Sheet.{after, end?, accepted, turned_down, at_end, judge_end, judge_fault, judge, verdict_from, verdict}
use Rattle.model.specs.Sheet.{listed, commands_from, commands_at}
use Rattle.model.specs.WellFormed.{Each}
use Rattle.model.specs.Encoding.{operands_of, widths_of, encode, encode_all, OperandsFit}
use Rattle.model.proofs.Lists.{impossible}
use Rattle.model.proofs.Fit.Reading.{found_at, none-past}
use Rattle.model.proofs.Encoding.Numbers.{append_assoc}
use Rattle.model.proofs.Encoding.Commands.{encode_of, command_back}
use Rattle.model.proofs.Encoding.Reading.{Passes, append-nil, encode_cons, encode_append, encode_one, first_found, goes_on, stops, ends, passed}

-- A VERDICT FROM A PLACE ON lies there or behind it
module _ (s : List ℕ) (p : ℕ) (within : p ≤ length s) {f : Refusal} {q : ℕ} where
  whole-place : (r : Row) (b : Bool) → found_whole b s p r ≡ refused f q → p ≤ q
  unfolding found_whole
  whole-place r true e = impossible (cc)
  whole-place r false e = let is : p ≡ q = cc in omega arith

  row-place : (o : Option Row) → found_row s p o ≡ refused f q → p ≤ q
  unfolding found_row
  row-place none e = let is : p ≡ q = cc in omega arith
  row-place (some r) e = whole-place r (leb (suc p + total r.widths) (length s)) e

  byte-place : (b : Bool) → found_byte b s p ≡ refused f q → p ≤ q
  unfolding found_byte
  byte-place true e = row-place (row_of (get_or s p 0) table) e
  byte-place false e = let is : length s ≡ q = cc in omega arith

  refused-place : command_at s p ≡ refused f q → p ≤ q
  unfolding command_at
  refused-place e = byte-place (ltb p (length s)) e

module _ (s : List ℕ) (f : Refusal) (q : ℕ) where
  -- from every place on
  abbrev Behind : ℕ → Type 0
  Behind n = (p : ℕ) (k : Known) → p ≤ length s → verdict_from n s p k ≡ turned_down f q → p ≤ q

  end_place : (next : ℕ) (b : Bool) → at_end b next ≡ turned_down f q → next ≡ q
  unfolding at_end
  end_place next true e = cc
  end_place next false e = impossible (cc)

  found-place : (n : ℕ) → Behind n → (p : ℕ) (k : Known) (c : Command) (next : ℕ) → p < next → next ≤ length s → (o : Option Refusal) (b : Bool)
      → end? c ≡ b → judge_fault (verdict_from n s) s p k c next o ≡ turned_down f q → p ≤ q
  unfolding judge_fault judge_end
  found-place n on p k c next more within (some g) b w e = let is : p ≡ q = cc in omega arith
  found-place n on p k c next more within none true w e = omega (arith, end_place next (ltb next (length s)) (rw w at e))
  found-place n on p k c next more within none false w e = omega (arith, on next (after k c) within (rw w at e))

  at_place : (n : ℕ) → Behind n → (p : ℕ) (k : Known) → p ≤ length s → (o : Found) → command_at s p ≡ o
      → judge (verdict_from n s) s p k o ≡ turned_down f q → p ≤ q
  unfolding judge
  at_place n on p k h (refused g r) at e = let is : r ≡ q = cc in omega (arith, refused-place s p h at)
  at_place n on p k h (found c next) at e =
      let w = found_at s p at in
      found-place n on p k c next (omega (arith, w.onward)) w.whole (fault_of k c) (end? c) refl e

  pub verdict-behind : (n p : ℕ) (k : Known) → p ≤ length s → verdict_from n s p k ≡ turned_down f q → p ≤ q
  unfolding verdict_from
  verdict-behind zero p k h e = let is : length s ≡ q = cc in omega arith
  verdict-behind (suc n) p k h e = at_place n (verdict-behind n) p k h (command_at s p) refl e

-- WRITTEN COMMANDS
pub encode-some : (c : Command) → 1 ≤ length (encode c)
encode-some c = rw (encode_of c) (omega arith)

pub as_many_bytes : (l : List Command) → length l ≤ length (encode_all l)
as_many_bytes [] = omega arith
as_many_bytes (c ∷ l) =
    omega (arith, ap length (encode_cons c l), length-append (encode c) (encode_all l), encode-some c, as_many_bytes l)

verdict-is : (s : List ℕ) → verdict s ≡ verdict_from (suc (length s)) s 0 nothing_known
unfolding verdict
verdict-is s = refl

module _ {l : List Command} {m : Known} (r : Passes nothing_known l m) (q : List ℕ) where
  abbrev text : List ℕ
  text = encode_all l ++ q

  abbrev left : ℕ
  left = length text - length l

  verdict-after : verdict text ≡ verdict_from (suc left) text (length (encode_all l)) m
  verdict-after =
      let fuel : suc (length text) ≡ length l + suc left = omega (arith, length-append (encode_all l) q, as_many_bytes l) in
      verdict-is text ∙ ap (λ (n : ℕ). verdict_from n text 0 nothing_known) fuel ∙ passed r (suc left) [] q

-- the next command
module _ {l : List Command} {m : Known} (r : Passes nothing_known l m) (c : Command) (fits : OperandsFit c) (q : List ℕ) where
  abbrev sheet : List ℕ
  sheet = encode_all l ++ (encode c ++ q)

  abbrev here : ℕ
  here = length (encode_all l)

  next-found : command_at sheet here ≡ found c (here + length (encode c))
  next-found = command_back c fits (encode_all l) q

  size : length sheet ≡ here + (length (encode c) + length q)
  size = omega (arith, length-append (encode_all l) (encode c ++ q), length-append (encode c) q)

  pub refused_here : (f : Refusal) → fault_of m c ≡ some f → verdict sheet ≡ turned_down f here
  refused_here f e = verdict-after r (encode c ++ q) ∙ stops _ sheet here m next-found f e

  not_there : (f : Refusal) (b : Bool) → at_end b (here + length (encode c)) ≡ turned_down f here → ⊥
  not_there f b e = absurd (omega (arith, end_place sheet f here (here + length (encode c)) b e, encode-some c))

  pub not-refused_here : (f : Refusal) → fault_of m c ≡ none → verdict sheet ≡ turned_down f here → ⊥
  not-refused_here f e v = go (end? c) refl
    where
      go : (b : Bool) → end? c ≡ b → ⊥
      go true w = not_there f _ (sym (verdict-after r (encode c ++ q) ∙ ends _ sheet here m next-found e w) ∙ v)
      go false w =
          absurd (omega (
            arith,
            encode-some c,
            verdict-behind sheet f here (left r (encode c ++ q)) (here + length (encode c)) (after m c) (omega (arith, size))
                (sym (verdict-after r (encode c ++ q) ∙ goes_on _ sheet here m next-found e w) ∙ v),
          ))

-- END
pub end_fits : OperandsFit END
unfolding widths_of row_by operands_of
end_fits = tt

module _ {l : List Command} {m : Known} (r : Passes nothing_known l m) (good : fault_of m END ≡ none) where
  -- the place after it, and the text with what follows
  abbrev stop : ℕ
  stop = length (encode_all l) + length (encode END)

  abbrev followed : List ℕ → List ℕ
  followed q = encode_all l ++ (encode END ++ q)

  ended : (q : List ℕ) (b : Bool) → ltb stop (length (followed q)) ≡ b → verdict (followed q) ≡ at_end b stop
  ended q b e =
      verdict-after r (encode END ++ q) ∙ ends _ (followed q) (length (encode_all l)) m (next-found r END end_fits q) good refl
      ∙ ap (λ (z : Bool). at_end z stop) e

  whole : encode_all (l ++ (END ∷ [])) ≡ encode_all l ++ encode END
  whole = encode_append l (END ∷ []) ∙ ap (λ (x : List ℕ). encode_all l ++ x) (encode_one END)

  pub accepted-sheet : verdict (encode_all (l ++ (END ∷ []))) ≡ accepted
  unfolding at_end
  accepted-sheet =
      let bare : encode_all l ++ encode END ≡ followed [] = ap (λ (x : List ℕ). encode_all l ++ x) (sym (append-nil (encode END))) in
      rw (whole, bare) (ended [] false (le-ltb stop (length (followed [])) (omega (arith, size r END end_fits []))))

  pub byte-after : (q : List ℕ) → 1 ≤ length q
      → verdict (encode_all (l ++ (END ∷ [])) ++ q) ≡ turned_down byte_after_end (length (encode_all (l ++ (END ∷ []))))
  unfolding at_end
  byte-after q h =
      let text : (encode_all l ++ encode END) ++ q ≡ followed q = append_assoc (encode_all l) (encode END) q in
      rw (whole, length-append (encode_all l) (encode END), text)
      (ended q true (lt-ltb stop (length (followed q)) (omega (arith, size r END end_fits q))))

-- HANDED OUT AGAIN
module _ (s : List ℕ) (n p : ℕ) where
  pub one-listed : {c : Command} {next : ℕ} → command_at s p ≡ found c next → commands_from (suc n) s p ≡ c ∷ commands_from n s next
  unfolding commands_from listed
  one-listed e = ap (listed (commands_from n s)) e

pub nothing_written : length (encode_all []) ≡ 0
unfolding encode_all
nothing_written = refl

handed-from : (n : ℕ) (l : List Command) → Each OperandsFit l → length l ≤ n → (p : List ℕ) → commands_from n (p ++ encode_all l) (length p) ≡ l
handed-from n [] h m p = none-past _ _ (omega (arith, length-append p (encode_all []), nothing_written)) n
handed-from zero (c ∷ l) h m p = absurd (omega arith)
handed-from (suc n) (c ∷ l) h m p =
    let bare : (x : List ℕ) → x ++ [] ≡ x = append-nil in
    let at : command_at (p ++ encode_all (c ∷ l)) (length p) ≡ found c (length (p ++ encode c)) =
    rw (bare (encode_all (c ∷ l))) at (first_found p c l [] h.0) in
    let text : p ++ encode_all (c ∷ l) ≡ (p ++ encode c) ++ encode_all l =
    ap (λ (x : List ℕ). p ++ x) (encode_cons c l) ∙ sym (append_assoc p (encode c) (encode_all l)) in
    one-listed _ n (length p) at ∙ ap (λ (x : List Command). c ∷ x) (rw text (handed-from n l h.1 (omega arith) (p ++ encode c)))

pub handed_out : (l : List Command) → Each OperandsFit l → commands_at (encode_all l) 0 ≡ l
unfolding commands_at
handed_out l h = handed-from (length (encode_all l)) l h (as_many_bytes l) []
