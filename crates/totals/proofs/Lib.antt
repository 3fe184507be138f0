pub mod Sums
pub mod Taken
pub mod Joining
pub mod Claims
pub mod Agreeing
