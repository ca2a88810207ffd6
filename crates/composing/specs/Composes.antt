-- What a call answers and leaves, by an equation with the model's answer.
use Rattle.std.specs.Prelude.{◌≡◌, List, ℕ, Result, Ok, Err}
use Rattle.model.specs.Refusal as R
use Rattle.model.specs.Command.{Command}
use Rattle.model.specs.Builder as M
use Rattle.commands.specs.View.{view_refusal}
use Rattle.commands.specs.declared.Fault.{Fault}
use Rattle.composing.specs.View.{view_state}
use Rattle.composing.specs.declared.BuilderState.{BuilderState}

-- The model's answer that a call's outcome at a state stands for, with the buffer after it: the place of a command that is taken is
-- the length that is then filled, and a refusal leaves the state.
abbrev pub answered : M.BuilderState → Result BuilderState Fault → List ℕ → M.Composed
answered s (Ok next) after = record { number = 0; place = next.filled; state = view_state next; buffer = after }
answered s (Err f) after = record { number = R.number (view_refusal f.refusal); place = f.place; state = s; buffer = after }

abbrev pub Composes : M.BuilderState → List ℕ → Command → Result BuilderState Fault → List ℕ → Type 0
Composes s before c r after = answered s r after ≡ M.compose s before c

-- a refusal, whatever the buffer
abbrev pub Declined : R.Refusal → M.BuilderState → Fault → Type 0
Declined f s r = (b : List ℕ) → answered s (Err r) b ≡ M.declined f s b
