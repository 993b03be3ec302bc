pub mod Thing
pub mod Replace
pub mod Memory
pub mod Glob
