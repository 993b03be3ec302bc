pub mod Tree
pub mod TreeFields
