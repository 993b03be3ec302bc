pub mod KeptLemmas
pub mod PutLemmas
