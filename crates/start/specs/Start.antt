-- What the two records hold at the start of a run.
use Rattle.std.specs.Prelude.{ℕ, ◌<◌, ◌≡◌, List, length, get_or}
use Rattle.model.specs.Sheet.{Sheet}
use Rattle.model.specs.Start.{zeros, copies_of, start_memory}
use Rattle.state.specs.State.{Shared, Own, no_own}
use Rattle.state.specs.Sized.{SharedSized, OwnSized}
use Rattle.state.specs.Held.{memory_of}

-- the model's memory at the start of a sheet
pub record SharedStarts (s : Sheet) (m : Shared) : Type 0 where
  pub memory : memory_of m ≡ start_memory s
  pub sized : SharedSized m

-- task p has no job yet, and its copies
pub record OwnStarts (p : ℕ) (t : Own) : Type 0 where
  pub registers : t.registers ≡ zeros 8
  pub copies : t.copies ≡ copies_of p
  pub counts : t.counts ≡ zeros 8
  pub sized : OwnSized t

pub record TasksStart (ts : List Own) : Type 0 where
  pub size : length ts ≡ 8
  pub each : (p : ℕ) → p < 8 → OwnStarts p (get_or ts p no_own)
