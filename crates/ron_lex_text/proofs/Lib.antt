pub mod BlankLemmas
pub mod CalledLemmas
pub mod NameLemmas
pub mod StretchLemmas
pub mod SearchLemmas
