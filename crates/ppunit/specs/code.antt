-- Vocabulary of the code: only contracts inside this crate and views cite these files. No theorem rests on them.
pub mod Chunks
pub mod Contexts
pub mod Effects
pub mod Lines
pub mod Opening
pub mod OperandExpansion
pub mod Preprocessor
pub mod TextLines
pub mod Walk
