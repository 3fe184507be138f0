pub mod Run
pub mod Area
pub mod Inner
pub mod Claims
