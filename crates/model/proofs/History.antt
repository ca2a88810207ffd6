-- Demand 3, history and order: the claim of a run follows once each tick justifies what it settles (Justified.antt says what that is;
-- `whole` in Theorem.antt draws the conclusion).
-- the claim about any history; the search of WholeCases decides it. Stated histories with orders in which it holds and does not hold
pub mod Ordered
pub mod Counted
pub mod Tests
pub mod Search
pub mod Stated
-- an order as a log by ticks, and how it grows with the history: the abstract theorem
pub mod Log
pub mod Advance
pub mod Growth
-- the machine's side: so many ticks one after the other, the task that runs
pub mod Steps
pub mod Arrive
-- what a statement means for its operation
pub mod Exchange
pub mod Moves
pub mod Statement
-- the history's side: one operation begun or amended a tick, the open operations of the tasks
pub mod Noted
pub mod Linked
pub mod Notes
pub mod Ticks
pub mod Began
-- the start of a run, what settles an operation, and the theorem
pub mod Start
pub mod Hit
pub mod Justified
pub mod Theorem
pub mod LeftOut
