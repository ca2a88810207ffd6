-- `pack` meets its contract.
use native.Mathlib.Nat.{add-zero}
use Rattle.state.specs.Packed.{packed}
use Rattle.state.proofs.Word.pack.Goals as goal

pub returns-then-self : goal.returns-then-self
unfolding packed
returns-then-self c = rw c.if-self.true

pub returns : goal.returns
unfolding packed
returns c = rw (c.if-self.false, add-zero)
