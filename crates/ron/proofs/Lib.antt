mod ReadLemmas
mod EndLemmas
mod FrontLemmas
mod WholeLemmas
mod ValueLemmas
pub mod StartLemmas
pub mod OwnedLemmas
mod TypeLemmas
mod TurnLemmas
