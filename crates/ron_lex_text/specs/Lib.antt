pub mod Stretch
pub mod Parsed
