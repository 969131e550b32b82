-- Vocabulary of the code: only contracts inside this crate and views cite these files. No theorem rests on them.
pub mod Paths
pub mod SearchCaches
pub mod ShelfRows
pub mod Shortage
