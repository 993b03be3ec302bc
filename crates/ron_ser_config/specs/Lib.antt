pub mod Tree
pub mod Same
pub mod SameLaws
pub mod View
pub mod Entries
pub mod Lent
pub mod Built
