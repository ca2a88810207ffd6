-- `entry_of` meets its contract.
use Rattle.commands.specs.Table.{entries, entry_of}
use Rattle.commands.proofs.Search.{between?, outside, skipped}
use lib.ListN.{drop, take}
use mathlib.Core.Logic.{inl, inr}
use mathlib.Core.Path.{◌∙◌, refl, sym}
use native.Mathlib.Omega.{arith}
use Rattle.commands.proofs.table.entry_of.Goals as goal

pub returns-in-1-to-15 : goal.returns-in-1-to-15
unfolding entry_of entries
returns-in-1-to-15 c = c.find.ensures

pub returns-in-16-to-47 : goal.returns-in-16-to-47
unfolding entry_of entries between?
returns-in-16-to-47 c =
    let b = c.args.b in
    c.find-in-16-to-47.ensures
    ∙ sym (skipped b (take 5 entries) (drop 5 entries) (outside b 0x01 0x0F (take 5 entries) refl (inr (omega arith))))

pub returns-in_default : goal.returns-in_default
unfolding entry_of between?
returns-in_default c = sym (outside c.args.b 0x01 0x2F entries refl (inl (omega arith)))

pub returns-in_default-2 : goal.returns-in_default-2
unfolding entry_of between?
returns-in_default-2 c = sym (outside c.args.b 0x01 0x2F entries refl (inr (omega arith)))
