pub mod Changes
pub mod Filling
pub mod Session
pub mod Answer
pub mod Inner
pub mod Claims
