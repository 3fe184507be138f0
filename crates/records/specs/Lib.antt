pub mod Records
pub mod Choosing
pub mod Cutting
pub mod Inner
pub mod Claims
