-- Every machine that a run of an accepted sheet reaches is well formed: the records of facts, and the proofs that each tick keeps them.
pub mod Elements
-- the records: what the text before a command tells, sheet, memory, exchange, transaction, machine (`Fit`)
pub mod Body
pub mod Sheet
pub mod Memory
pub mod Exchange
pub mod Transaction
pub mod Machine
-- every statement keeps them: outside a transaction and inside it
pub mod Counts
pub mod Outside
pub mod Blocks
pub mod Pass
pub mod TransactionTick
pub mod Statement
-- the task that runs, what comes before a statement and the releases that wait, every tick, the start
pub mod Running
pub mod Enter
pub mod Waiting
pub mod Releases
pub mod Tick
pub mod Start
-- an accepted sheet has them (`accepted-fit`), and so has every machine of its run
pub mod Reading
pub mod Declared
pub mod Walk
pub mod Accepted
-- the same for the ranges of all numbers
pub mod Ranges
pub mod RangesExchange
pub mod RangesTransaction
pub mod RangesStatement
pub mod RangesStart
