-- The commands of a body from a line on: the one at that line and those from the next line on.
use Prim.Native.Nat.{ℕ, suc, ◌-◌, ◌<◌, ◌≤◌}
use mathlib.Core.Path.{◌≡◌, sym, ap, ◌∙◌}
use mathlib.Core.List.{List, [], ◌∷◌, map}
use native.Mathlib.Omega.{arith}
use lib.ListN.{length, get_or, take}
use lib.Seq.{drop-cons}
use borrow.Author.Tests.{lt-ltb}
use Rattle.model.specs.Command as C
use Rattle.model.specs.Job as J
use Rattle.model.proofs.Lists.{impossible}
use Rattle.model.proofs.Fit.Elements.{below?}
use Rattle.commands.specs.View.{view_body_command}
use Rattle.commands.specs.declared.BodyCommand.{BodyCommand}
use Rattle.commands.specs.declared.BodyCommand.TheVariants as B
use Rattle.jobs.specs.Jobs.{next_line}
use Rattle.jobs.specs.declared.Job.{Job}
use Rattle.statements.specs.Statements.{command_in}
use Rattle.program.specs.Program.{commands_in}

-- the next line of a line that there is
pub next-line : (j : Job) → j.at ≤ 512 → next_line j ≡ suc j.at
next-line j h = omega arith

module _ (program : List BodyCommand) (size : length program ≡ 512) (end : ℕ) (bound : end ≤ 512) where
  -- the command at a line of the body
  pub command-in : (from : ℕ) → from < end → command_in program from ≡ get_or program from (B.Load 0 0)
  command-in from h = rw (lt-ltb from 512 (omega arith))

  pub lines_none : (from : ℕ) → end ≤ from → commands_in program from end ≡ []
  unfolding commands_in
  lines_none from h = let e : end - from ≡ 0 = omega arith in rw e

  pub lines_more : (from : ℕ) → from < end
      → commands_in program from end ≡ view_body_command (get_or program from (B.Load 0 0)) ∷ commands_in program (suc from) end
  unfolding commands_in
  lines_more from h =
      let e : end - from ≡ suc (end - suc from) = omega arith in
      rw e (ap (λ (l : List BodyCommand). map view_body_command (take (suc (end - suc from)) l)) (drop-cons program from (B.Load 0 0) (omega arith)))

  -- the same with the command as the code takes it up
  pub lines_at : (from : ℕ) → from < end → commands_in program from end ≡ view_body_command (command_in program from) ∷ commands_in program (suc from) end
  lines_at from h =
      lines_more from h ∙ ap (λ (c : BodyCommand). view_body_command c ∷ commands_in program (suc from) end) (sym (command-in from h))

  -- a line with commands from it on lies before the end
  pub lines-before : (from : ℕ) {c : C.BodyCommand} {l : List C.BodyCommand} → commands_in program from end ≡ c ∷ l → from < end
  lines-before from {c} {l} e =
      below? from end (λ h. h) (λ h. let none = lines_none from h in
      let clash : ◌≡◌ {A = List C.BodyCommand} [] (c ∷ l) = sym none ∙ e in
      impossible cc)

  -- the commands from the next line on
  pub lines_next : (j : Job) → j.at ≤ 512 → commands_in program (next_line j) end ≡ J.rest (commands_in program j.at end)
  lines_next j h =
      ap (λ (n : ℕ). commands_in program n end) (next-line j h)
      ∙ below? j.at end
      (λ b. sym (ap J.rest (lines_more j.at b)))
      (λ b. lines_none (suc j.at) (omega arith) ∙ sym (ap J.rest (lines_none j.at b)))
