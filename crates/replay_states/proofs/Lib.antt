pub mod States
pub mod Counted
pub mod StateClaims
