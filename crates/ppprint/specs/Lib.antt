pub mod Shown
pub mod Located
pub mod Operators
pub mod Apart
pub mod Text
pub mod Reads
pub mod Laws
pub mod code
