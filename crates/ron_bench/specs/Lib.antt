pub mod Tree
pub mod Layout
pub mod Told
