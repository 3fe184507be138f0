pub mod Tallies
pub mod Keeping
pub mod Sessions
pub mod Inner
pub mod Claims
pub mod Cases
