-- `entry_at` meets its contract.
use Rattle.std.proofs.Common.{◌≡◌, arith, Some, None}
use Rattle.commands.specs.Table.{entry_of}
use Rattle.commands.proofs.Decoding.{by-entry, cut, named-says, no-row, past_the_end}
use Rattle.commands.proofs.entry_at.Goals as goal

pub returns-in_default : goal.returns-in_default
returns-in_default c = past_the_end _ _ c.in_default.ensures.lookup.3

pub returns-in_default-entry_of : goal.returns-in_default-entry_of
returns-in_default-entry_of c =
    let b = c.in-Some.b.now in
    let byte = c.in-Some.ensures.lookup.3 in
    let unnamed : entry_of b ≡ None = cc in
    no-row _ _ byte.0 (rw (byte.1 0) at (rw unnamed at (named-says b)))

pub returns-then-s-at : goal.returns-then-s-at
returns-then-s-at c =
    let b = c.in-Some.b.now in
    let byte = c.in-Some.ensures.lookup.3 in
    let named : entry_of b ≡ Some c.in-Some-entry_of.e = cc in
    let says = rw (byte.1 0) at (rw named at (named-says b)) in
    cut _ _ byte.0 says.0 (omega arith)

pub returns : goal.returns
returns c =
    let b = c.in-Some.b.now in
    let byte = c.in-Some.ensures.lookup.3 in
    let named : entry_of b ≡ Some c.in-Some-entry_of.e = cc in
    let says = rw (byte.1 0) at (rw named at (named-says b)) in
    by-entry _ _ _ byte.0 says (omega arith)
