mod BlankLemmas
mod CommentLemmas
mod GrantLemmas
mod WholeLemmas
mod OpenLemmas
mod LayLemmas
