mod CoordinateLemmas
mod PointLemmas
mod RoundTripLemmas
