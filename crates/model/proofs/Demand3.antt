-- Demand 3: every run of an accepted sheet is a sequence of whole operations (`demand-3` in Theorem.antt).
-- Here the layers are joined: Fit (machines are well formed), Exchanges, Transactions, and History (history and order), which
-- asks that every tick justifies what it settles.
-- what each statement does to the cells, and the exchange layer at each statement
pub mod Acts
pub mod Cells
-- what the exchange layer asks of a history
pub mod Past
pub mod Grounds
-- the plain machine's SWAP; the latest operation of each task, of which the transaction layer speaks
pub mod Swap
pub mod Latest
-- what holds after every tick
pub mod State
pub mod Always
-- every tick is justified
pub mod Justify
pub mod Theorem
