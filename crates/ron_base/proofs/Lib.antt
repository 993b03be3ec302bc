pub mod EscapeLemmas
pub mod ByteLemmas
pub mod ExtensionLemmas
pub mod AsciiLemmas
