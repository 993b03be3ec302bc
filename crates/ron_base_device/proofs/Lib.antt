pub mod PieceLemmas
pub mod GatherLemmas
pub mod OutputLemmas
pub mod AnswerLemmas
pub mod SinkLemmas
