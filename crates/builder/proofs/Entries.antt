-- What each `return` of the builder's entries gives: the model's answer, and the story.
use Prim.Native.Nat.{ℕ}
use mathlib.Core.Path.{◌≡◌, refl, ap, ◌∙◌}
use mathlib.Core.List.{List}
use native.Mathlib.Omega.{arith}
use Rattle.std.specs.Prelude.{Result, Ok, Err}
use Rattle.model.specs.Refusal as R
use Rattle.commands.specs.View.{view_refusal}
use Rattle.model.specs.Builder as B
use Rattle.model.proofs.Builder.Story.{story}
use Rattle.composing.specs.View.{view_state}
use Rattle.commands.specs.declared.Fault.{Fault}
use Rattle.composing.specs.Composes.{answered}
use Rattle.composing.specs.declared.BuilderState.{BuilderState}
use Rattle.builder.specs.Handed.{ComposesHanded}
use Rattle.builder.specs.Packed.{state_of}
use Rattle.builder.specs.Contract.{ComposesFor, ComposesBytes}
use Rattle.builder.proofs.StateBytes.{start_is}

left : (s : B.BuilderState) (r : Result BuilderState Fault) (after : List ℕ) → after ≡ (answered s r after).buffer
left s (Ok next) after = refl
left s (Err f) after = refl

pub composes : (s : B.BuilderState) (r : Result BuilderState Fault) (after : List ℕ) (a : B.Composed) → answered s r after ≡ a
    → ComposesFor a (answered s r after).number (answered s r after).place (answered s r after).state after
composes s r after a e =
    record {
      number = ap (λ (x : B.Composed). x.number) e;
      place = ap (λ (x : B.Composed). x.place) e;
      state = ap (λ (x : B.Composed). x.state) e;
      buffer = left s r after ∙ ap (λ (x : B.Composed). x.buffer) e;
      story = story;
    }

module _ (bytes : List (List ℕ)) (before after : List ℕ) (byte : ℕ) (operands : List ℕ) (s : BuilderState)
    (unpacked : view_state s ≡ state_of bytes) where
  abbrev answer : B.Composed
  answer = B.compose_handed (state_of bytes) before (B.handed byte operands)

  -- the same at the state in the bytes
  abbrev Answers : Result BuilderState Fault → Type 0
  Answers r = ComposesHanded (view_state s) before (B.handed byte operands) r after

  composed : (r : Result BuilderState Fault) → Answers r → answered (state_of bytes) r after ≡ answer
  composed r a = rw unpacked at a

  pub composes_taken : (next : BuilderState) (bytes' : List (List ℕ)) → Answers (Ok next) → state_of bytes' ≡ view_state next
      → ComposesBytes bytes before byte operands 0 next.filled bytes' after
  composes_taken next bytes' a e =
      let w = composes (state_of bytes) (Ok next) after answer (composed (Ok next) a) in
      record {
        answer = record { number = w.number; place = w.place; state = e ∙ w.state; buffer = w.buffer; story = story };
        start = start_is;
        kept = λ h. absurd (omega arith);
      }

  pub composes_refused : (f : Fault) {n : ℕ} → n ≡ R.number (view_refusal f.refusal) → Answers (Err f)
      → ComposesBytes bytes before byte operands n f.place bytes after
  composes_refused f is a =
      let w = composes (state_of bytes) (Err f) after answer (composed (Err f) a) in
      record {
        answer = record { number = is ∙ w.number; place = w.place; state = w.state; buffer = w.buffer; story = story };
        start = start_is;
        kept = λ h. refl;
      }
