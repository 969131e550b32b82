-- The lemmas of this crate, by file. The proofs of its functions are in one directory per source file.

-- Sums over seat states, and how often a number occurs in a list.
pub mod SeatTotals
-- Each step of the claim protocol preserves `ClaimInvariant`.
pub mod ClaimSteps
-- Closing a desk: its seats are joined one by one, starting with the last.
pub mod SeatJoining
-- Retained outputs of units.
pub mod RetainedOutputs
-- The invariants of a worker's results are preserved when files, results or blocks are added.
pub mod WorkerResults
-- Filling the units' slots with results.
pub mod SlotFilling
-- Units' values are unique, and stay so over more files. If all files are known, units have values.
pub mod ValueUniqueness
