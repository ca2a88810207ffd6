-- `decode` meets its contract.
use Rattle.std.proofs.Common.{sym, ◌≡◌, Err, rules}
use native.Mathlib.Numerals.{add-one}
use native.Mathlib.Omega.{arith}
use Rattle.commands.proofs.decode.Goals as goal

pub returns-in_default : goal.returns-in_default
returns-in_default c =
    let passed : c.map.result ≡ Err c.in_default.field-0 = search rules in
    rw passed (sym c.in_default.ensures)

pub overflow_add-next : goal.overflow_add-next
overflow_add-next c = omega (arith, c.in-Ok.ensures.1.0)

pub overflow_add-next-2 : goal.overflow_add-next-2
overflow_add-next-2 c = omega (arith, c.in-Ok.ensures.0, c.in-Ok.ensures.1.0)

pub overflow_add-at : goal.overflow_add-at
overflow_add-at c = omega (arith, c.in-Ok.ensures.1.0)

pub command_of-requires : goal.command_of-requires
command_of-requires c = omega (arith, c.in-Ok.ensures.1.0)

pub returns : goal.returns
returns c = rw (c.in-Ok.ensures.1.1, ← rw add-one at c.command_of.ensures, ← c.in-Ok.ensures.0, add-one)
