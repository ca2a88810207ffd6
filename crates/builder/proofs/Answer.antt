-- The answer to a command handed over by byte and operands.
use Prim.Native.Nat.{ℕ}
use mathlib.Core.Path.{◌≡◌}
use mathlib.Core.List.{List}
use mathlib.Core.Option.{Option, none, some}
use Rattle.model.specs.Refusal.{no_command, byte_after_end}
use Rattle.model.specs.Command.{Command}
use Rattle.model.specs.Builder.{BuilderState, Composed, declined, compose, compose_unnamed, compose_handed}
use Rattle.std.specs.Prelude.{true, false}

module _ (s : BuilderState) (b : List ℕ) {o : Option Command} where
  pub when-named : {c : Command} {a : Composed} → some c ≡ o → a ≡ compose s b c → a ≡ compose_handed s b o
  unfolding compose_handed
  when-named e h = rw (← e) h

  pub unnamed_end : none ≡ o → s.ended ≡ true → declined byte_after_end s b ≡ compose_handed s b o
  unfolding compose_handed compose_unnamed
  unnamed_end e t = rw (← e, t)

  pub when-unnamed : none ≡ o → s.ended ≡ false → declined no_command s b ≡ compose_handed s b o
  unfolding compose_handed compose_unnamed
  when-unnamed e t = rw (← e, t)
