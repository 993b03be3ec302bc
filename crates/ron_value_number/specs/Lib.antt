pub mod Width
pub mod Number
pub mod Smallest
pub mod Written
