-- A run that was paused at one limit and taken up again to a later one is the run to the later one.
use Prim.Native.Nat.{ℕ, ◌≤◌}
use mathlib.Core.List.{List}
use native.Mathlib.Omega.{arith}
use Rattle.commands.specs.declared.BodyCommand.{BodyCommand}
use Rattle.machine.specs.Flat.{FlatMachine, released, ticked, Ends, limited, stopped, arrives, moves}

module _ (sheet : List ℕ) (program : List BodyCommand) (bounds : List ℕ) (early late : ℕ) (later : early ≤ late) where
  pub resume : (w v u : FlatMachine) → Ends sheet program bounds early w v → Ends sheet program bounds late v u → Ends sheet program bounds late w u
  resume w v u (limited l) r = r
  resume w v u (stopped e) r = r
  resume w v u (arrives task next l e rest) r = arrives {w = w} task next (omega arith) e (resume (released bounds w task next) v u rest r)
  resume w v u (moves l due e rest) r = moves {w = w} (omega arith) due e (resume (ticked program bounds w) v u rest r)
