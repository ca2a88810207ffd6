-- Only END ends the reading of a sheet.
use mathlib.Core.Path.{◌≡◌, refl}
use mathlib.Core.Bool.{true, false≢true}
use Rattle.model.specs.Command.{Command, WORD, BLOCK, TASK, RELEASE, END, body}
use Rattle.model.specs.Sheet.{end?}

pub is-end : (c : Command) → end? c ≡ true → c ≡ END
is-end END e = refl
is-end (WORD v) e = absurd (false≢true e)
is-end (BLOCK b) e = absurd (false≢true e)
is-end TASK e = absurd (false≢true e)
is-end (RELEASE r) e = absurd (false≢true e)
is-end (body c) e = absurd (false≢true e)
