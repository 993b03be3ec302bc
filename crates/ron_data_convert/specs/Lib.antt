pub mod Becomes
pub mod Misfits
pub mod Places
pub mod Slots
