pub mod Elements
pub mod Pairs
pub mod Turns
