pub mod Claims
pub mod RawClaims
