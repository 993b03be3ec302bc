pub mod Device
pub mod Adapters
pub mod Gathered
pub mod Begun
pub mod Output
pub mod Utf8
