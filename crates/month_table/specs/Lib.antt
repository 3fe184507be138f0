pub mod Table
pub mod Reading
pub mod Writing
pub mod Inner
pub mod Claims
