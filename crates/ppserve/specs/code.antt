-- Vocabulary of the code: only contracts inside this crate and views cite these files. No theorem rests on them.
pub mod LinePrefix
pub mod NeededRetention
pub mod Printing
pub mod TextPieces
pub mod Segments
pub mod Records
pub mod Refusals
pub mod Rounds
pub mod Runs
