pub mod Names
pub mod Spelled
pub mod Rows
pub mod Structs
pub mod NamedStructs
pub mod FieldLaws
pub mod SpelledLaws
pub mod PieceLaws
