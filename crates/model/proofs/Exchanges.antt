-- Demand 3, the exchange layer: what READ, SWAP and the inner readings and exchanges of transactions do to cells, statuses and save places.
-- Of a task only its act counts: free, reading a cell, exchanging (Act). `below p q` says that q's job runs before p's; Order and Rank in
-- Invariant are all that is used of it, and Reorder lets it change between ticks. Demand3/Cells has the order in use:
-- by the first ticks of operations.
--
-- THE INVARIANT (Invariant), document 01's rules as they hold between ticks:
--   contents  a cell's word is valid, or stands for an uncleaned entry of its task's exchange;
--   knows     what a task has loaded is of tasks below it; what it found is old and saved; whom a changing pair replaced is marked;
--   standing  what a task that may still say yes has installed is in its cells, or covered by a task that it is below.
-- A tick of an exchange is one of the constructors of Outcome. Frame carries what the other tasks know over a statement, Early, Statement and
-- Clean show the running task's own part, Kept has them all; Standing and Upheld do the same for what stands. Preserve: every statement keeps it.
--
-- WHAT FOLLOWS
--   Current   1. every statement leaves every current value, but for Commit at status 0: `current-kept`, `start-current`
--             2. that one changes exactly its entries' cells, from old to new: `commit-all`, `-installed`, `-old`, `-new`, `-others`
--   Grounded  3. what a reading gives was the current value at its Load: `reading-gives`; the grounds are kept: `exchange-past`, `start-past`,
--             `reading-past`, `free-past`; a no has its grounds: `no-has-grounds`
--   Rates     a reading ends in its 2nd or 3rd tick, an exchange in exactly the ticks that its steps tell, of k entries by its (9k + 4)th:
--             `reading-rate`, `reading-ends`, `exchange-exact`, `exchange-ends`; Exact has its walk over the outcomes, Marks: its marks are on other
--             tasks
-- Ground asks a History for what was seen and hit and how that passes a tick (Passes, SeesNow); it does not say how one is kept.
--
-- THE MACHINE: Demand3/Acts walks over all statements, by act before and after, and Demand3/Cells draws the conclusions,
-- also what the transaction layer asks.
pub mod Act
pub mod Invariant
pub mod Words
pub mod Outcome
pub mod Frame
pub mod Early
pub mod Statement
pub mod Clean
pub mod Kept
pub mod Standing
pub mod Upheld
pub mod Preserve
pub mod Current
pub mod Exact
pub mod Rates
pub mod Marks
pub mod Ground
pub mod GroundFrame
pub mod GroundEarly
pub mod GroundStatement
pub mod GroundKept
pub mod Grounded
pub mod Reorder
