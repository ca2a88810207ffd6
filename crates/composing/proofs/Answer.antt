-- The model's answer, case by case.
use Prim.Native.Nat.{ℕ, ◌+◌}
use mathlib.Core.Path.{◌≡◌, refl, sym, ◌∙◌}
use mathlib.Core.Bool.{Bool, true, false}
use mathlib.Core.List.{List, []}
use mathlib.Core.Option.{Option, none, some}
use borrow.Author.Tests.{ltb-true, ltb-false, le-leb, lt-leb}
use lib.Dec.{ltb, leb}
use lib.ListN.{length}
use Rattle.model.specs.Refusal.{byte_after_end, buffer_full}
use Rattle.model.specs.Refusal as R
use Rattle.model.specs.Fault.{Known, fault_of, under_ceiling}
use Rattle.model.specs.Sheet.{after, end?}
use Rattle.model.specs.Command as M
use Rattle.model.specs.Encoding.{encode}
use Rattle.model.specs.Builder.{BuilderState, Composed, declined, overwrite, compose_by, compose, taken}
use Rattle.model.proofs.Fit.Body.{passed_of}
use Rattle.commands.specs.View.{view_command}
use Rattle.commands.specs.declared.Command.{Command}
use Rattle.sheet.proofs.Values.{fault_values, after-values, end_values}

-- THE ANSWER
module _ (s : BuilderState) (b : List ℕ) where
  -- the answer by the three tests
  by : {e f : Bool} {o : Option R.Refusal} (c : M.Command) → s.ended ≡ e → fault_of s.known c ≡ o
      → leb (s.filled + length (encode c)) (length b) ≡ f → compose s b c ≡ compose_by e o f s b c
  unfolding compose
  by c e o f = rw (e, o, f) refl

  pub at-end : (c : M.Command) → s.ended ≡ true → declined byte_after_end s b ≡ compose s b c
  unfolding compose_by
  at-end c e = sym (by c e refl refl)

  module _ (vs : List ℕ) (c : Command) (going : s.ended ≡ false) where
    pub at-fault : (f : R.Refusal) → some f ≡ fault_of s.known (view_command [] c) → declined f s b ≡ compose s b (view_command vs c)
    unfolding compose_by
    at-fault f e = sym (by (view_command vs c) going (fault_values vs s.known c ∙ sym e) refl)

    module _ (good : none ≡ fault_of s.known (view_command [] c)) where
      abbrev size : ℕ
      size = length (encode (view_command vs c))

      free : {t : Bool} → leb (s.filled + size) (length b) ≡ t → compose s b (view_command vs c) ≡ compose_by false none t s b (view_command vs c)
      free e = by (view_command vs c) going (fault_values vs s.known c ∙ sym good) e

      pub when-full : true ≡ ltb (length b) (s.filled + size) → declined buffer_full s b ≡ compose s b (view_command vs c)
      unfolding compose_by
      when-full e = sym (free (lt-leb (s.filled + size) (length b) (ltb-true (length b) (s.filled + size) (sym e))))

      pub when_taken : {n : ℕ} {k : Known} {t : Bool} {x : List ℕ} → false ≡ ltb (length b) (s.filled + size)
          → n ≡ s.filled + size → k ≡ after s.known (view_command [] c) → t ≡ end? (view_command [] c)
          → x ≡ overwrite b s.filled (encode (view_command vs c))
          → ◌≡◌ {A = Composed} (record { number = 0; place = n; state = record { known = k; filled = n; ended = t }; buffer = x })
          (compose s b (view_command vs c))
      unfolding compose_by taken
      when_taken e is known ends w =
          rw (is, known, ends, w, ← after-values vs s.known c, ← end_values vs c)
          (sym (free (le-leb (s.filled + size) (length b) (ltb-false (length b) (s.filled + size) (sym e)))))

-- a good command is under its ceiling
pub good_under : (k : Known) (c : M.Command) → none ≡ fault_of k c → under_ceiling k c ≡ true
good_under k c e = (passed_of k c (sym e)).under_ceiling
