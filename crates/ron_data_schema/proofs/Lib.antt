pub mod ChainLemmas
pub mod TableLemmas
pub mod CopyLemmas
pub mod MoveLemmas
pub mod NameLemmas
