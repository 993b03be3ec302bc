pub mod AnyValue
pub mod Datum
pub mod Order
pub mod OrderLaws
pub mod Pairs
pub mod Slots
