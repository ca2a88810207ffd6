-- The story of calls from nothing filled: the reader's numbers and places, sheets that it accepts, every one of them, and each by one list.
use Prim.Native.Nat.{ℕ, ◌+◌, ◌<◌, ◌≤◌}
use mathlib.Core.Bool.{true, false}
use mathlib.Core.Path.{◌≡◌, refl, sym, ap, ◌∙◌, subst}
use mathlib.Core.Logic.{◌↔◌}
use mathlib.Core.List.{List, [], ◌∷◌, ◌++◌}
use mathlib.Core.Option.{none, some}
use native.Mathlib.Omega.{arith}
use lib.ListN.{length, drop, length-append}
use lib.Seq.{take-append_seam, drop-append_seam}
use Rattle.model.specs.Refusal.{Refusal, byte_after_end, number}
use Rattle.model.specs.Command.{Command, END}
use Rattle.model.specs.Fault.{Known, nothing_known, fault_of}
use Rattle.model.specs.Sheet.{after, end?, accepted, turned_down, verdict, commands_at}
use Rattle.model.specs.WellFormed.{Each}
use Rattle.model.specs.Encoding.{encode, encode_all, OperandsFit}
use Rattle.model.specs.Builder.{BuilderState, Composed, taken, compose, handed, given, Calls, start, takes, filled_part, ComposedBy, Story}
use Rattle.model.proofs.Lists.{impossible}
use Rattle.model.proofs.Refusals.{number-some, same_number}
use Rattle.model.proofs.Fit.Reading.{ReadFrom, lastly, firstly, read_all}
use Rattle.model.proofs.Fit.Body.{passed_of}
use Rattle.model.proofs.Builder.Handed.{handed-exact}
use Rattle.model.proofs.Encoding.Numbers.{append_assoc, Bytes}
use Rattle.model.proofs.Encoding.Ranges.{Bounded}
use Rattle.model.proofs.Encoding.Commands.{found_fits}
use Rattle.model.proofs.Encoding.Reading.{Passes, nothing, first, encode_cons, encode_one}
use Rattle.model.proofs.Encoding.Verdict.{encode-some, refused_here, not-refused_here, end_fits, accepted-sheet, byte-after, nothing_written, handed_out}
use Rattle.model.proofs.Encoding.Sheets.{sheet-bytes, fits_values}
use Rattle.model.proofs.Builder.Calls.{Outcome, after_end, faulty, full, takes_it, outcome, Stands, going, ended, Left, fits_behind, longer, left_by}

-- THE READER'S NUMBER
module _ (c : Command) (fits : OperandsFit c) (f : Refusal) (before : number f < 11) (rest : List ℕ) where
  -- before END
  module _ {l : List Command} {k : Known} (n : ℕ) (p : Passes nothing_known l k) (x : List ℕ) where
    abbrev state : BuilderState
    state = record { known = k; filled = n; ended = false }

    abbrev Says : Composed → Type 0
    Says a = a.number ≡ number f ↔ verdict (encode_all l ++ (encode c ++ rest)) ≡ turned_down f (length (encode_all l))

    going_says : (a : Composed) → Outcome state x c a → Says a
    unfolding taken
    going_says a (after_end e) = impossible (cc)
    going_says a (faulty g e q) = (
      λ h. subst (λ (z : Refusal). verdict (encode_all l ++ (encode c ++ rest)) ≡ turned_down z (length (encode_all l))) (same_number g f h)
          (refused_here p c fits rest g q),
      λ h. let z : turned_down g (length (encode_all l)) ≡ turned_down f (length (encode_all l)) = sym (refused_here p c fits rest g q) ∙ h in
          let is : g ≡ f = cc in ap number is,
    )
    going_says a (full e q r) = (λ h. absurd (omega (arith, h)), λ h. absurd (not-refused_here p c fits rest f q h))
    going_says a (takes_it e q r) = (λ h. absurd (omega (arith, h, number-some f)), λ h. absurd (not-refused_here p c fits rest f q h))

  -- after END
  module _ {l : List Command} {k : Known} (n : ℕ) (p : Passes nothing_known l k) (good : fault_of k END ≡ none) (x : List ℕ) where
    abbrev last : BuilderState
    last = record { known = k; filled = n; ended = true }

    abbrev sheet : List ℕ
    sheet = encode_all (l ++ (END ∷ []))

    follows : verdict (sheet ++ (encode c ++ rest)) ≡ turned_down byte_after_end (length sheet)
    follows = byte-after p good (encode c ++ rest) (omega (arith, length-append (encode c) rest, encode-some c))

    ended-says : (a : Composed) → Outcome last x c a → a.number ≡ number f ↔ verdict (sheet ++ (encode c ++ rest)) ≡ turned_down f (length sheet)
    ended-says a (after_end e) = (
      λ h. subst (λ (z : Refusal). verdict (sheet ++ (encode c ++ rest)) ≡ turned_down z (length sheet)) (same_number byte_after_end f h) follows,
      λ h. let z : turned_down byte_after_end (length sheet) ≡ turned_down f (length sheet) = sym follows ∙ h in
          let is : byte_after_end ≡ f = cc in ap number is,
    )
    ended-says a (faulty g e q) = impossible (cc)
    ended-says a (full e q r) = impossible (cc)
    ended-says a (takes_it e q r) = impossible (cc)

  says : {l : List Command} {s : BuilderState} (x : List ℕ) → Stands l s
      → (compose s x c).number ≡ number f ↔ verdict (encode_all l ++ (encode c ++ rest)) ≡ turned_down f (length (encode_all l))
  says {s = s} x (going n p w) = going_says n p x (compose s x c) (outcome s x c)
  says {s = s} x (ended n p g) = ended-says n p g x (compose s x c) (outcome s x c)

-- THE COMMANDS TAKEN fit, so that they are handed out again
each_more : (l : List Command) (c : Command) → Each OperandsFit l → OperandsFit c → Each OperandsFit (l ++ (c ∷ []))
each_more [] c h w = (w, tt)
each_more (x ∷ l) c h w = (h.0, each_more l c h.1 w)

passes_fit : {k m : Known} {l : List Command} → Passes k l m → Each OperandsFit l
passes_fit nothing = tt
passes_fit (first e f w r) = (w, passes_fit r)

stands_fit : {l : List Command} {s : BuilderState} → Stands l s → Each OperandsFit l
stands_fit (going n p w) = passes_fit p
stands_fit (ended {l = l} n p g) = each_more l END (passes_fit p) end_fits

module _ {b x : List ℕ} {l : List Command} {s : BuilderState} (calls : Calls b l s x) where
  left : Left b l s x
  left = left_by calls

  filled_is : filled_part s x ≡ encode_all l
  filled_is = rw (left.filled, left.buffer) (take-append_seam (encode_all l) (drop (length (encode_all l)) b))

  past_is : drop s.filled x ≡ drop s.filled b
  past_is = rw (left.filled, left.buffer) (drop-append_seam (encode_all l) (drop (length (encode_all l)) b))

  again : commands_at (filled_part s x) 0 ≡ l
  again = rw filled_is (handed_out l (stands_fit left.stands))

stands_accepted : {l : List Command} {s : BuilderState} → Stands l s → s.ended ≡ true → verdict (encode_all l) ≡ accepted
stands_accepted (going n p w) e = impossible (cc)
stands_accepted (ended n p g) e = accepted-sheet p g

-- EVERY ACCEPTED SHEET
is-taken : {s : BuilderState} {x : List ℕ} {c : Command} (a : Composed) → Outcome s x c a → s.ended ≡ false → fault_of s.known c ≡ none
    → s.filled + length (encode c) ≤ length x → a ≡ taken s x c
is-taken a (after_end e) q f h = impossible (cc)
is-taken a (faulty g e r) q f h = impossible (cc)
is-taken a (full e g r) q f h = absurd (omega arith)
is-taken a (takes_it e g r) q f h = refl

module _ (b sheet : List ℕ) (small : Bytes sheet) where
  -- one more of its commands
  module _ {l : List Command} {s : BuilderState} {x : List ℕ} (calls : Calls b l s x) (c : Command) (fits : OperandsFit c) (Going-on : s.ended ≡ false)
      (good : fault_of s.known c ≡ none) (room : length (encode_all l) + length (encode c) ≤ length b) where
    abbrev next : Composed
    next = compose s x c

    fits_in : s.filled + length (encode c) ≤ length x
    fits_in =
        let h = left_by calls in
        let size : length x ≡ length b = ap length h.buffer ∙ fits_behind b l c h.room in
        omega (arith, h.filled, room)

    is-next : next ≡ taken s x c
    is-next = is-taken next (outcome s x c) Going-on good fits_in

    next-number : next.number ≡ 0
    unfolding taken
    next-number = ap (λ (a : Composed). a.number) is-next

    next_known : next.state.known ≡ after s.known c
    unfolding taken
    next_known = ap (λ (a : Composed). a.state.known) is-next

    next-ended : next.state.ended ≡ end? c
    unfolding taken
    next-ended = ap (λ (a : Composed). a.state.ended) is-next

    next-calls : Calls b (l ++ (c ∷ [])) next.state next.buffer
    next-calls = takes c calls (fits_values c fits) next-number

  build : {l r : List Command} {s : BuilderState} {x : List ℕ} {p : ℕ} {k : Known} → Calls b l s x → s.ended ≡ false → s.known ≡ k → ReadFrom sheet p k r
      → length (encode_all l) + length (encode_all r) ≤ length b → ComposedBy b (l ++ r) (encode_all (l ++ r))
  build {l} {r} {s} {x} {p} calls e is (lastly {next = next} at past q) h =
      let good : fault_of s.known END ≡ none = rw is q in
      let room : length (encode_all l) + length (encode END) ≤ length b = omega (arith, h, ap length (encode_one END)) in
      let more = next-calls calls END end_fits e good room in
      record {
        state = _;
        buffer = _;
        calls = more;
        ended = next-ended calls END end_fits e good room;
        filled = filled_is more;
      }
  build {l} {s = s} {p = p} calls e is (firstly {next = next} {c = c} {l = r} at q f rest) h =
      let good : fault_of s.known c ≡ none = rw is q in
      let fits = found_fits sheet small p next c at in
      let sizes = ap length (encode_cons c r) ∙ length-append (encode c) (encode_all r) in
      let room : length (encode_all l) + length (encode c) ≤ length b = omega (arith, h, sizes) in
      let known = next_known calls c fits e good room ∙ ap (λ (z : Known). after z c) is in
      let apart : (l ++ (c ∷ [])) ++ r ≡ l ++ (c ∷ r) = append_assoc l (c ∷ []) r in
      let rest-room : length (encode_all (l ++ (c ∷ []))) + length (encode_all r) ≤ length b =
      omega (arith, h, sizes, longer b l c (left_by calls).room) in
      subst (λ (z : List Command). ComposedBy b z (encode_all z)) apart
      (build {l = l ++ (c ∷ [])} (next-calls calls c fits e good room) (next-ended calls c fits e good room ∙ f) known rest rest-room)

  composed : verdict sheet ≡ accepted → length sheet ≤ length b → ComposedBy b (commands_at sheet 0) sheet
  unfolding commands_at
  composed e h =
      let same = sheet-bytes sheet small e in
      subst (ComposedBy b (commands_at sheet 0)) (sym same)
      (build start refl refl (read_all sheet e) (omega (arith, h, ap length same, nothing_written)))

-- A COMMAND TAKEN by its byte and operands
module _ (b : ℕ) (o : List ℕ) (c : Command) (is : handed b o ≡ some c) (x : List ℕ) (k : Known) (n : ℕ) where
  going_exact : Bounded k.counts → (a : Composed) → Outcome (record { known = k; filled = n; ended = false }) x c a → a.number ≡ 0 → given b o ≡ some c
  going_exact w a (after_end f) z = impossible (cc)
  going_exact w a (faulty f g h) z = absurd (omega (arith, z, number-some f))
  going_exact w a (full f g h) z = absurd (omega (arith, z))
  going_exact w a (takes_it f g h) z = handed-exact k.counts w b o c (passed_of k c g).in_range is

  ended-exact : (a : Composed) → Outcome (record { known = k; filled = n; ended = true }) x c a → a.number ≡ 0 → given b o ≡ some c
  ended-exact a (after_end f) z = absurd (omega (arith, z))
  ended-exact a (faulty f g h) z = impossible (cc)
  ended-exact a (full f g h) z = impossible (cc)
  ended-exact a (takes_it f g h) z = impossible (cc)

exact-by : {l : List Command} {s : BuilderState} (x : List ℕ) → Stands l s → (b : ℕ) (o : List ℕ) (c : Command) → handed b o ≡ some c
    → (compose s x c).number ≡ 0 → given b o ≡ some c
exact-by {s = s} x (going {k = k} n p w) b o c e z = going_exact b o c e x k n w (compose s x c) (outcome s x c) z
exact-by {s = s} x (ended {k = k} n p g) b o c e z = ended-exact b o c e x k n (compose s x c) (outcome s x c) z

-- THE STORY
pub story : Story
story =
    record {
      filled = filled_is;
      past = past_is;
      reader = λ {b} {x} {l} {s} calls c fits f before rest. reader calls c fits f before rest;
      exact = λ {b} {x} {l} {s} calls byte operands c e z. exact-by x (left_by calls).stands byte operands c e z;
      sheet = λ calls e. (rw (filled_is calls) (stands_accepted (left_by calls).stands e), again calls);
      every = composed;
      once = λ a b e. sym (again a) ∙ ap (λ (z : List ℕ). commands_at z 0) e ∙ again b;
    }
  where
    reader : {b x : List ℕ} {l : List Command} {s : BuilderState} → Calls b l s x → (c : Command) → OperandsFit c → (f : Refusal) → number f < 11
        → (rest : List ℕ) → (compose s x c).number ≡ number f ↔ verdict (filled_part s x ++ encode c ++ rest) ≡ turned_down f s.filled
    reader {b} {x} {l} {s} calls c fits f before rest =
        let here = (left_by calls).filled in
        let text : filled_part s x ++ encode c ++ rest ≡ encode_all l ++ (encode c ++ rest) =
        ap (λ (z : List ℕ). z ++ encode c ++ rest) (filled_is calls) ∙ append_assoc (encode_all l) (encode c) rest in
        let w = says c fits f before rest x (left_by calls).stands in (
          λ h. ap verdict text ∙ w.0 h ∙ ap (turned_down f) (sym here),
          λ h. w.1 (sym (ap verdict text) ∙ h ∙ ap (turned_down f) here),
        )
