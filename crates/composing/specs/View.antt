-- The model's state of the builder that the crate's stands for.
use Rattle.model.specs.Builder as M
use Rattle.rules.specs.View.{view_known}
use Rattle.composing.specs.declared.BuilderState.{BuilderState}

abbrev pub view_state : BuilderState → M.BuilderState
view_state s = record { known = view_known s.known; filled = s.filled; ended = s.ended }
