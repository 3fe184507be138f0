pub mod Head
pub mod State
pub mod Reading
pub mod Inner
pub mod Claims
pub mod Cases
