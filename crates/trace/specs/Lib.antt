pub mod Trace
pub mod Playing
pub mod Came
pub mod Claims
pub mod Cases
