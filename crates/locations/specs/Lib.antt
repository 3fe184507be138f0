pub mod Locations
pub mod Views
pub mod Inner
pub mod Claims
pub mod Cases
