-- `set_store` meets its contract.
use Rattle.model.specs.Lists.{at}
use Rattle.std.proofs.Common.{◌≡◌, refl, arith}
use Rattle.start.proofs.Stores.{none-stored, one-stored, all-stored}
use Rattle.start.proofs.set_store.Goals as goal

pub loop-k-init : goal.loop-k-init
loop-k-init c = none-stored c.requires

pub loop-k-preserved : goal.loop-k-preserved
unfolding at
loop-k-preserved c = rw c.set_value.ensures (one-stored c.requires _ _ c.loop-k.invariant (omega (arith, c.requires.eight)) refl)

pub returns : goal.returns
returns c = let l = c.loop-k in let q : l.k ≡ 8 = omega (arith, c.loop-k-test, c.requires.eight) in all-stored c.requires (rw q at l.invariant)
