-- The rates of every run of an accepted sheet (`rates` in Theorem.antt): a reading that ends takes 2 or 3 ticks of its own, an exchange of k
-- words at most 9k + 4, and one that the limit cuts short has done fewer. Exchanges/Rates has the bounds of one reading and one exchange,
-- which use of the other tasks only that a status 1 stays 1; here they are taken to the operations of a run.
-- ticks of its own, one tick at a time; the machine in tick u; a status 1 stays 1
pub mod Own
pub mod Status
-- READ and SWAP: the task inside it, the operation when it ends, the operation until then
pub mod Timely
pub mod Ended
pub mod Open
pub mod Run
-- the reading of a bank word and the exchange of a COMMIT, which are no operations of their own
pub mod Bank
pub mod Commit
-- the T line's ticks
pub mod Used
pub mod Theorem
