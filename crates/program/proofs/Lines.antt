-- The lines of a program from one up to another: none at first, one more after each line written, and the earlier ones stay.
use Prim.Native.Nat.{ℕ, suc, ◌+◌, ◌-◌, ◌<◌, ◌≤◌}
use mathlib.Core.Path.{◌≡◌, ◌∙◌, ap}
use mathlib.Core.List.{List, [], ◌∷◌, ◌++◌, map, map-append}
use native.Mathlib.Omega.{arith}
use lib.ListN.{length, take, drop, set, length-drop}
use lib.Seq.{take-set-le, drop-set-add, take-suc-set}
use Rattle.commands.specs.View.{view_body_command}
use Rattle.commands.specs.declared.BodyCommand.{BodyCommand}
use Rattle.program.specs.Program.{commands_in}

-- LISTS: m elements from f on, after the element with number n is set
module _ {A : Type 0} (l : List A) (f n : ℕ) (a : A) where
  from_first : f ≤ n → drop f (set l n a) ≡ set (drop f l) (n - f) a
  from_first h =
      let e : n ≡ f + (n - f) = omega arith in
      ap (λ (q : ℕ). drop f (set l q a)) e ∙ drop-set-add f l (n - f) a

  earlier : (m : ℕ) → f ≤ n → m ≤ n - f → take m (drop f (set l n a)) ≡ take m (drop f l)
  earlier m h less = ap (take m) (from_first h) ∙ take-set-le m (drop f l) (n - f) a less

  one_later : f ≤ n → n < length l → take (n + 1 - f) (drop f (set l n a)) ≡ take (n - f) (drop f l) ++ (a ∷ [])
  one_later h less =
      let e : n + 1 - f ≡ suc (n - f) = omega arith in
      ap (λ (q : ℕ). take q (drop f (set l n a))) e ∙ ap (take (suc (n - f))) (from_first h)
      ∙ take-suc-set (drop f l) (n - f) a (omega (arith, length-drop f l))

-- LINES
pub no_lines : (program : List BodyCommand) (n : ℕ) → commands_in program n n ≡ []
unfolding commands_in
no_lines program n =
    let e : n - n ≡ 0 = omega arith in
    ap (λ (q : ℕ). map view_body_command (take q (drop n program))) e

module _ (program : List BodyCommand) (n : ℕ) (c : BodyCommand) where
  -- a line written behind them leaves them as they were
  pub lines_stay : (from end : ℕ) → from ≤ n → end ≤ n → commands_in (set program n c) from end ≡ commands_in program from end
  unfolding commands_in
  lines_stay from end h k = ap (map view_body_command) (earlier program from n c (end - from) h (omega arith))

  -- the line written next
  pub one-line_more : (from : ℕ) → from ≤ n → n < length program
      → commands_in (set program n c) from (n + 1) ≡ commands_in program from n ++ (view_body_command c ∷ [])
  unfolding commands_in
  one-line_more from h less =
      ap (map view_body_command) (one_later program from n c h less) ∙ map-append view_body_command (take (n - from) (drop from program)) (c ∷ [])
