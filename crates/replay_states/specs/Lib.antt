pub mod States
pub mod Inner
pub mod Claims
