pub mod Smallest
pub mod SmallestExamples
