pub mod Retained
pub mod Desk
pub mod Laws
pub mod code
