pub mod ValueTrees
pub mod ListOrders
pub mod TreeMaps
mod OrderedEntries
mod AscendingPairs
mod PlaceLemmas
mod SettledPairs
mod SearchLemmas
mod DigitLemmas
pub mod ProbeExamples
