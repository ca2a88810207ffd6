-- The code's machine over the shared memory and the tasks' records, seen through a view, is the model's: from the view to the end of the run.

-- lists given by their elements' numbers, the view, what it does not show
pub mod Tabulate
pub mod View
pub mod Shape
-- a body's commands, the parts of a task's record, the shared memory
pub mod Lines
pub mod Sized
pub mod Entered
pub mod Copied
pub mod Counted
pub mod Memory
pub mod Entries
pub mod Blocks
-- READ and SWAP
pub mod Reading
pub mod Exchange
pub mod ExchangeKept
pub mod Done
pub mod Answers
pub mod Plain
-- transactions
pub mod Lost
pub mod Access
pub mod Gather
pub mod Commit
pub mod Between
-- one statement: outside a transaction, inside one, any
pub mod Outside
pub mod Inside
pub mod Statements
-- releases, ticks, the run
pub mod Unfinished
pub mod Releases
pub mod Machine
pub mod Released
pub mod Ticked
pub mod Run
pub mod Start
pub mod Final
