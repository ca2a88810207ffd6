pub mod Ends
pub mod Refusals
pub mod Lists
pub mod Sums
-- the decimal numbers of a report
pub mod Decimal
-- by computation: demand 3 on small runs, document 01's figures, those of arrivals, of lost attempts and of the sheet builder, runs in which the bounds
-- of the rates are reached
pub mod Bytes
pub mod Sheets
pub mod WholeCases
pub mod ClaimCases
pub mod Cases
pub mod ArrivalCases
pub mod AttemptCases
pub mod BuildCases
pub mod Bounds
pub mod TickCases
-- the bytes of commands
pub mod Encoding
-- the sheet builder (`story` in Builder/Story.antt)
pub mod Builder
-- well formed machines
pub mod Fit
-- demand 3 (`demand-3` in Demand3/Theorem.antt): exchanges, transactions, history and order, and how they join
pub mod Exchanges
pub mod Transactions
pub mod History
pub mod Demand3
-- the rates (`rates` in Rates/Theorem.antt)
pub mod Rates
-- releases that wait (`waits` in Waiting.antt)
pub mod Waiting
-- drops by task (`drops` in Drops/Theorem.antt)
pub mod Drops
-- lost attempts (`lost-attempts` in LostAttempts/Theorem.antt)
pub mod LostAttempts
-- well-formed sheets (`good-written` in WellFormed/Written.antt, `rules-good` in WellFormed/Sections.antt)
pub mod WellFormed
