pub mod Answer
pub mod Fault
pub mod Refused
pub mod View
pub mod Whole
