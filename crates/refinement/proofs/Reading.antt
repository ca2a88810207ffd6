-- READ's ticks over packed words are the model's.
use Prim.Native.Nat.{ℕ, ◌<◌}
use mathlib.Core.Path.{◌≡◌, refl, ap, ◌∙◌}
use mathlib.Core.Bool.{Bool, true, false}
use lib.ListN.{length}
use Rattle.model.specs.Word as W
use Rattle.state.specs.Packed.{unpack, value_of}
use Rattle.exchanges.specs.Places.{if}
use Rattle.exchanges.specs.Reading.{owned, after_look, after_reading}
use Rattle.exchanges.specs.declared.read.Reading.{Reading}
use Rattle.exchanges.specs.declared.read.Reading.TheVariants.{Load, Look, Fetch}
use Rattle.exchanges.specs.declared.read.Read.TheVariants.{Reads, Gives}
use Rattle.state.specs.State.{Shared}
use Rattle.state.specs.Held.{memory_of}
use Rattle.refinement.proofs.View.{reading_of, read_of}
use Rattle.state.proofs.Held.{cell_at}
use Rattle.exchanges.proofs.Reading.{own-unpack, saved-for}

module _ (m : Shared) (cell : ℕ) (below : cell < length m.cells) (size : length m.saves ≡ 64) where
  look-by : (w : ℕ) (b : Bool) → W.looking_by b (unpack w) ≡ read_of (if b (Gives (value_of w)) (Reads (Fetch w)))
  unfolding W.looking_by unpack
  look-by w true = refl
  look-by w false = refl

  pub read-tick : (r : Reading) → W.read_tick (memory_of m) cell (reading_of r) ≡ read_of (after_reading m cell r)
  unfolding W.read_tick after_reading after_look
  read-tick Load = ap (λ (w : W.Word). W.reads (W.looking w)) (cell_at m.cells cell below)
  read-tick (Look w) = ap (λ (b : Bool). W.looking_by b (unpack w)) (own-unpack m w) ∙ look-by w (owned m w)
  read-tick (Fetch w) = ap W.gives (saved-for m w size)
