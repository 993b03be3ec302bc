mod ItemTurns
mod ItemLemmas
mod AnyTurns
mod ValueLemmas
pub mod NumberLemmas
pub mod ReadLemmas
mod FormLemmas
mod CountLemmas
mod SomeCounts
mod SomeLemmas
pub mod LeadLemmas
