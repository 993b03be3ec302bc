pub mod Faults
pub mod Flags
pub mod Point
pub mod Run
pub mod Told
pub mod Words
