pub mod Accepts
pub mod RecoveryLaws
