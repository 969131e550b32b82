-- Vocabulary of the code: only contracts inside this crate and views cite these files. No theorem rests on them.
pub mod Nodes
pub mod Members
pub mod Operations
pub mod PoolInvariant
pub mod NameFilter
pub mod ChainParts
pub mod KeptOperands
pub mod KeptChains
pub mod VaOptLists
pub mod Hashed
pub mod Defining
pub mod PreparedDefinitions
pub mod Replacing
