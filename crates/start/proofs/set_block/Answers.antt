-- `set_block` meets its contract.
use Rattle.start.proofs.Numbers.{store_range, block_range, version-range, store-ready, block_done}
use native.Mathlib.Omega.{arith}
use Rattle.start.proofs.set_block.Goals as goal

pub overflow_mul-store : goal.overflow_mul-store
overflow_mul-store c = record { fits = omega (arith, store_range c.args.n.now c.requires) }

pub overflow_add-store : goal.overflow_add-store
overflow_add-store c = record { fits = omega (arith, store_range c.args.n.now c.requires) }

pub overflow_mul-version : goal.overflow_mul-version
overflow_mul-version c = record { fits = omega (arith, version-range c.args.n.now c.requires, c.version-version.ensures) }

pub overflow_cast-store : goal.overflow_cast-store
overflow_cast-store c = record { fits = omega (arith, store_range c.args.n.now c.requires) }

pub overflow_add-version : goal.overflow_add-version
overflow_add-version c =
    let pre = c.requires in
    record { fits = omega (arith, version-range c.args.n.now pre, store_range c.args.n.now pre, c.version-version.ensures) }

pub overflow_add-b : goal.overflow_add-b
overflow_add-b c = record { fits = omega (arith, block_range c.args.n.now c.requires) }

pub set_store-requires : goal.set_store-requires
set_store-requires c = let pre = c.requires in store-ready c.args.n.now pre _ c.set_cell.ensures c.block_values.ensures

pub returns : goal.returns
returns c =
    let pre = c.requires in
    let version = c.version-version.ensures in
    let bank = rw version at c.fresh_cell.ensures in
    let cell = c.set_cell.ensures in
    let stored = rw (cell, c.block_values.ensures) at c.set_store.ensures in
    block_done c.args.n.now pre _ bank stored
