-- The place after a command does not depend on the values that lie beside a BLOCK.
use Prim.Native.Nat.{ℕ, suc}
use mathlib.Core.Path.{◌≡◌, refl, ap, ◌∙◌}
use mathlib.Core.List.{List, []}
use Rattle.std.specs.Prelude.{Result, Ok, Err}
use Rattle.model.specs.Command.{command_at}
use Rattle.commands.specs.View.{view_decoded}
use Rattle.commands.specs.Stages.{values_from}
use Rattle.commands.specs.declared.Command.{Command}
use Rattle.commands.specs.declared.Fault.{Fault}
use Rattle.reader.specs.Handed.{HandsOut, after}

after_viewed : (at : ℕ) (vs ws : List ℕ) (d : Result (Command × ℕ) Fault) → after at (view_decoded vs d) ≡ after at (view_decoded ws d)
after_viewed at vs ws (Ok r) = refl
after_viewed at vs ws (Err f) = refl

pub after-command : (sheet : List ℕ) (at : ℕ) (d : Result (Command × ℕ) Fault) → HandsOut sheet at d → (place : ℕ) → place ≡ after at (view_decoded [] d)
    → place ≡ after at (command_at sheet at)
after-command sheet at d e place p = p ∙ (after_viewed at [] (values_from sheet (suc at)) d ∙ ap (after at) e)
