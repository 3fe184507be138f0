pub mod Boundary
pub mod Together
pub mod Claims
pub mod Promises
