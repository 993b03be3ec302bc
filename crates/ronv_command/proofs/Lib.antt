mod FlagLemmas
mod PointLemmas
mod RunLemmas
