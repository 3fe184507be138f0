pub mod Feeding
pub mod Month
pub mod Promises
pub mod Inner
pub mod Claims
pub mod Cases
