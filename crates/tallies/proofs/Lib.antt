pub mod Readings
pub mod Joins
pub mod KeptLaws
pub mod Outcomes
pub mod RowClaims
pub mod Claims
pub mod Recounts
pub mod Joining
