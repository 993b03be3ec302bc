pub mod SpelledLemmas
pub mod RowLemmas
pub mod StructLemmas
pub mod NamedLemmas
pub mod FieldLaws
pub mod StructLaws
