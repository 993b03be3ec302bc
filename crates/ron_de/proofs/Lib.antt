mod TurnLemmas
pub mod ReachLemmas
mod SeenLemmas
mod FieldsLemmas
mod ElementLemmas
mod PairLemmas
mod BareLemmas
mod HeldLemmas
mod InsideLemmas
pub mod FirstLemmas
