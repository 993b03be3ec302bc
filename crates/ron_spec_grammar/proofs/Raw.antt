-- Raw texts: what may be cut from a text and stands by itself.
pub mod Quiet
pub mod Settled
pub mod Points
pub mod Moves
pub mod Gaps
pub mod Bodies
