-- Demand 3, the transaction layer. Each transaction is followed on the plain machine from BEGIN on; where its exchange says yes, the plain
-- transaction takes the contents before to the contents after (`commit-replays` in Replay.antt), and no other statement changes a block.

-- the invariants: versions, owners of the stores, the pass; and what is taken from the exchange layer
pub mod Facts
pub mod Given
-- versions, laws of contents, and what a pass keeps while others move
pub mod Versions
pub mod Contents
pub mod Frame
-- the statements of a pass, each with the plain machine
pub mod Steps
pub mod Puts
pub mod Pass
-- COMMIT: the pairs gathered, the commit lemma, the owners of the stores, the exchange
pub mod Gather
pub mod Commit
pub mod Owners
pub mod Exchange
pub mod Committing
-- every statement, the invariant kept, what it does to the contents
pub mod Statement
pub mod Machine
pub mod Replay
-- the start of a run; Run has every tick
pub mod Start
