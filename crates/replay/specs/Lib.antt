pub mod Feeding
pub mod Inner
pub mod Claims
