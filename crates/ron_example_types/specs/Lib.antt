pub mod RoundTrip
pub mod LaidOut
pub mod FieldNames
pub mod Point
pub mod Shape
