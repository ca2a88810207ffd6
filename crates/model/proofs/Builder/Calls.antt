-- What calls from nothing filled leave: commands that the reader passes, their bytes in front of the buffer as it was.
use Prim.Native.Nat.{ℕ, suc, ◌+◌, ◌<◌, ◌≤◌}
use mathlib.Core.Bool.{Bool, true, false}
use mathlib.Core.Path.{◌≡◌, refl, sym, ap, ◌∙◌, subst}
use mathlib.Core.List.{List, [], ◌∷◌, ◌++◌}
use mathlib.Core.Option.{Option, none, some}
use native.Mathlib.Omega.{arith}
use borrow.Author.Tests.{leb-true, leb-false}
use lib.Dec.{leb}
use lib.ListN.{length, take, drop, length-append, length-drop}
use lib.Seq.{take-append_seam, drop-append-add, drop-drop}
use Rattle.model.specs.Refusal.{Refusal, byte_after_end, buffer_full}
use Rattle.model.specs.Command.{Command, END}
use Rattle.model.specs.Fault.{Known, nothing_known, fault_of}
use Rattle.model.specs.Sheet.{after, end?}
use Rattle.model.specs.Encoding.{encode, encode_all, ValuesFit}
use Rattle.model.specs.Builder.{BuilderState, nothing_filled, Composed, declined, overwrite, taken, compose_by, compose}
use Rattle.model.specs.Builder.{Calls, start, takes, declines}
use Rattle.model.proofs.Lists.{impossible}
use Rattle.model.proofs.Ends.{is-end}
use Rattle.model.proofs.Refusals.{number-some}
use Rattle.model.proofs.Encoding.Ranges.{Bounded, nothing_bounded, after_bounded, faultless_fits}
use Rattle.model.proofs.Encoding.Reading.{Passes, nothing, one_more, encode_append, encode_one}

-- ONE CALL: which answer it gives
pub data Outcome (s : BuilderState) (x : List ℕ) (c : Command) : Composed → Type 0 where
  after_end : s.ended ≡ true → Outcome s x c (declined byte_after_end s x)
  faulty : (f : Refusal) → s.ended ≡ false → fault_of s.known c ≡ some f → Outcome s x c (declined f s x)
  full : s.ended ≡ false → fault_of s.known c ≡ none → length x < s.filled + length (encode c) → Outcome s x c (declined buffer_full s x)
  takes_it : s.ended ≡ false → fault_of s.known c ≡ none → s.filled + length (encode c) ≤ length x → Outcome s x c (taken s x c)

module _ (s : BuilderState) (x : List ℕ) (c : Command) where
  by : (e : Bool) → s.ended ≡ e → (o : Option Refusal) → fault_of s.known c ≡ o → (f : Bool) → leb (s.filled + length (encode c)) (length x) ≡ f
      → Outcome s x c (compose_by e o f s x c)
  unfolding compose_by
  by true e o g f h = after_end e
  by false e (some r) g f h = faulty r e g
  by false e none g false h = full e g (leb-false _ _ h)
  by false e none g true h = takes_it e g (leb-true _ _ h)

  pub outcome : Outcome s x c (compose s x c)
  unfolding compose
  outcome = by s.ended refl (fault_of s.known c) refl (leb (s.filled + length (encode c)) (length x)) refl

-- WHAT IS LEFT
-- the reader passes the commands taken, and after END it has come to the end
pub data Stands : List Command → BuilderState → Type 0 where
  going : {l : List Command} {k : Known} (n : ℕ) → Passes nothing_known l k → Bounded k.counts
      → Stands l (record { known = k; filled = n; ended = false })
  ended : {l : List Command} {k : Known} (n : ℕ) → Passes nothing_known l k → fault_of k END ≡ none
      → Stands (l ++ (END ∷ [])) (record { known = k; filled = n; ended = true })

pub record Left (b : List ℕ) (l : List Command) (s : BuilderState) (x : List ℕ) : Type 0 where
  pub stands : Stands l s
  pub filled : s.filled ≡ length (encode_all l)
  pub room : length (encode_all l) ≤ length b
  pub buffer : x ≡ encode_all l ++ drop (length (encode_all l)) b

-- a refusal leaves what was there
declined-left : {b : List ℕ} {l : List Command} {s : BuilderState} {x : List ℕ} (c : Command) (a : Composed) {n : ℕ} → Outcome s x c a
    → a.number ≡ suc n → Left b l s x → Left b l a.state a.buffer
unfolding taken
declined-left c a (after_end e) q h = h
declined-left c a (faulty f e g) q h = h
declined-left c a (full e g r) q h = h
declined-left c a (takes_it e g r) q h = absurd (omega (arith, q))

-- A COMMAND THAT IS TAKEN
-- its bytes behind those before
module _ (b : List ℕ) (l : List Command) (c : Command) (room : length (encode_all l) ≤ length b) where
  abbrev was : List ℕ
  was = encode_all l

  pub one_longer : encode_all (l ++ (c ∷ [])) ≡ was ++ encode c
  one_longer = encode_append l (c ∷ []) ∙ ap (λ (z : List ℕ). was ++ z) (encode_one c)

  pub longer : length (encode_all (l ++ (c ∷ []))) ≡ length was + length (encode c)
  longer = ap length one_longer ∙ length-append was (encode c)

  pub written_behind : overwrite (was ++ drop (length was) b) (length was) (encode c)
      ≡ encode_all (l ++ (c ∷ [])) ++ drop (length (encode_all (l ++ (c ∷ [])))) b
  unfolding overwrite
  written_behind =
      let front : take (length was) (was ++ drop (length was) b) ≡ was = take-append_seam was (drop (length was) b) in
      let back : drop (length was + length (encode c)) (was ++ drop (length was) b) ≡ drop (length was + length (encode c)) b =
      drop-append-add was (drop (length was) b) (length (encode c)) ∙ drop-drop (length (encode c)) (length was) b in
      rw (front, back, longer, one_longer) refl

  -- where they fit
  pub fits_behind : length (was ++ drop (length was) b) ≡ length b
  fits_behind = length-append was (drop (length was) b) ∙ omega (arith, length-drop (length was) b)

-- the reader passes one more, or has come to the end
stands_more : {l : List Command} {s : BuilderState} (c : Command) (n : ℕ) → Stands l s → s.ended ≡ false → fault_of s.known c ≡ none → ValuesFit c
    → Stands (l ++ (c ∷ [])) (record { known = after s.known c; filled = n; ended = end? c })
unfolding after
stands_more c n (ended m p g) e f v = impossible (cc)
stands_more {l} c n (going {k = k} m p w) e f v = go (end? c) refl
  where
    go : (b : Bool) → end? c ≡ b → Stands (l ++ (c ∷ [])) (record { known = after k c; filled = n; ended = end? c })
    go true q =
        let is : c ≡ END = is-end c q in
        subst (λ (z : Command). Stands (l ++ (z ∷ [])) (record { known = after k z; filled = n; ended = end? z })) (sym is)
        (ended n p (rw is at f))
    go false q =
        rw q (going n (one_more c p f q (faultless_fits k w c f v)) (after_bounded k c f w))

taken-left : {b : List ℕ} {l : List Command} {s : BuilderState} {x : List ℕ} (c : Command) (a : Composed) → Outcome s x c a → a.number ≡ 0
    → ValuesFit c → Left b l s x → Left b (l ++ (c ∷ [])) a.state a.buffer
unfolding taken
taken-left c a (after_end e) q v h = absurd (omega (arith, q))
taken-left c a (faulty f e g) q v h = absurd (omega (arith, q, number-some f))
taken-left c a (full e g r) q v h = absurd (omega (arith, q))
taken-left {b} {l} {s} {x} c a (takes_it e g r) q v h =
    let size : length x ≡ length b = ap length h.buffer ∙ fits_behind b l c h.room in
    record {
      stands = stands_more c (s.filled + length (encode c)) h.stands e g v;
      filled = omega (arith, h.filled, longer b l c h.room);
      room = omega (arith, h.filled, longer b l c h.room, r, size);
      buffer = rw (h.filled, h.buffer) (written_behind b l c h.room);
    }

-- ALL CALLS
nothing_left : (b : List ℕ) → Left b [] nothing_filled b
unfolding encode_all
nothing_left b = record { stands = going 0 nothing nothing_bounded; filled = refl; room = omega arith; buffer = refl }

pub left_by : {b : List ℕ} {l : List Command} {s : BuilderState} {x : List ℕ} → Calls b l s x → Left b l s x
left_by {b} start = nothing_left b
left_by (takes {s = s} {x = x} c r v q) = taken-left c (compose s x c) (outcome s x c) q v (left_by r)
left_by (declines {s = s} {x = x} c r q) = declined-left c (compose s x c) (outcome s x c) q (left_by r)
