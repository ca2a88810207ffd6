-- `value` meets its contract.
use Prim.Native.Nat.{ℕ, ◌<◌, ◌≤◌, ◌^◌}
use Rattle.model.specs.Command.{big_endian}
use Rattle.std.proofs.Math.Nat.{pow-le-pow_right, pow-suc}
use mathlib.Core.Path.{refl}
use native.Mathlib.Numerals.{add-one}
use native.Mathlib.Omega.{arith}
use Rattle.commands.proofs.value.Goals as goal

three_bytes : (i v : ℕ) → i < 4 → v < 256 ^ i → v < 256 ^ 3
three_bytes i v short below =
    let at_most : 256 ^ i ≤ 256 ^ 3 = pow-le-pow_right (omega arith) {j = 3} (omega arith) in
    omega arith

pub loop-i-init : goal.loop-i-init
unfolding big_endian
loop-i-init g c = (refl, omega arith)

pub overflow_mul-v : goal.overflow_mul-v
overflow_mul-v g c =
    let l = c.loop-i in
    omega (arith, three_bytes l.i l.v (omega arith) l.invariant.1)

pub overflow_add-v : goal.overflow_add-v
overflow_add-v g c =
    let l = c.loop-i in
    omega (arith, three_bytes l.i l.v (omega arith) l.invariant.1)

pub loop-i-preserved : goal.loop-i-preserved
unfolding big_endian
loop-i-preserved g c =
    let l = c.loop-i in
    rw add-one (rw (← l.invariant.0, c.byte.ensures), omega (arith, pow-suc 256 l.i))
