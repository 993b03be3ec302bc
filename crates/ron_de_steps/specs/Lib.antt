pub mod Errors
pub mod Reads
pub mod Room
pub mod Conditions
pub mod Steps
pub mod Advance
pub mod Spends
pub mod Attributes
