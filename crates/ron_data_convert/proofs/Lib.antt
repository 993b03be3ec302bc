pub mod BecomesLemmas
pub mod ItemLemmas
pub mod SizeLemmas
pub mod SlotLemmas
pub mod PlaceLemmas
pub mod FieldLemmas
pub mod ShapeLemmas
pub mod TreeLemmas
