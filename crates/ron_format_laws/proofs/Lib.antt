pub mod Words
pub mod Trees
pub mod Rules
pub mod Bodies
pub mod Crossing
pub mod Heads
pub mod Documents
pub mod Raws
