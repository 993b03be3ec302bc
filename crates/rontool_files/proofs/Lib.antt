pub mod FollowLemmas
mod GlobLemmas
