pub mod CaretLemmas
