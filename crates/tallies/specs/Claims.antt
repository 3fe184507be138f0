pub mod Tallies
pub mod Joining
pub mod Rows
pub mod Sessions
