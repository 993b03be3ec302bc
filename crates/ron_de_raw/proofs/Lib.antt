mod StretchLemmas
mod AloneLemmas
mod ReadingLemmas
mod TurnLemmas
