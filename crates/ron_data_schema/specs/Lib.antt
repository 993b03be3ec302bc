pub mod Shapes
pub mod Chains
pub mod Refusals
pub mod Table
pub mod Names
