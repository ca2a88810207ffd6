-- `index` meets its contract.
use Prim.Native.Nat.{suc}
use Rattle.model.specs.Command.{command_at, found}
use Rattle.sheet.proofs.Indexing.{begin, finished, here, is_found}
use Rattle.sheet.proofs.Reading.{next-after}
use Rattle.sheet.proofs.Values.{counted-values, room-values}
use Rattle.commands.specs.Stages.{values_from}
use mathlib.Core.Path.{◌≡◌, sym}
use native.Mathlib.Omega.{arith}
use Rattle.sheet.proofs.checked.Accepted.index.Goals as goal

pub loop-c-init : goal.loop-c-init
loop-c-init c = begin _ _ c.empty-x.ensures c.bytes-sheet.ensures.sound

pub count-requires : goal.count-requires
count-requires c =
    let vs = values_from c.bytes-sheet.result.now (suc c.loop-c.at) in
    let e = sym c.in-Ok.ensures in
    room-values vs c.loop-c.x c.in-Ok.c (is_found (here c.loop-c.invariant e) e).0

pub loop-c-smaller : goal.loop-c-smaller
loop-c-smaller c =
    let e : command_at c.bytes-sheet.result.now c.loop-c.at ≡ found _ c.in-Ok.next = sym c.in-Ok.ensures in
    omega (arith, (next-after _ _ e).0, (next-after _ _ e).1)

pub loop-c-preserved : goal.loop-c-preserved
loop-c-preserved c =
    let vs = values_from c.bytes-sheet.result.now (suc c.loop-c.at) in
    let e = sym c.in-Ok.ensures in
    rw (c.count.ensures, ← counted-values vs c.loop-c.x c.in-Ok.c c.loop-c.at c.in-Ok.next) (is_found (here c.loop-c.invariant e) e).1

pub returns-in_default : goal.returns-in_default
returns-in_default c = rw c.bytes-sheet.ensures.same at (finished c.loop-c.invariant (sym c.in_default.ensures))
