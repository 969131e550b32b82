pub mod Tokens
pub mod Writings
pub mod Progress
pub mod Printers
pub mod Steps
pub mod Held
pub mod PragmaText
