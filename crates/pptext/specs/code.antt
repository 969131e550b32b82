-- Vocabulary of the code: only contracts inside this crate and views cite these files. No theorem rests on them.
pub mod LineNotes
pub mod Steps
pub mod CleanedText
pub mod FoundLexemes
pub mod Scanning
pub mod Grouping
