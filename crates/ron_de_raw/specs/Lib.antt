pub mod Raw
pub mod Reading
