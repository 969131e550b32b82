-- Vocabulary of the code: only contracts inside this crate and views cite these files. No theorem rests on them.
pub mod Pending
pub mod DefinedOnly
pub mod Symbols
