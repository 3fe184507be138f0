pub mod Edition
pub mod Inventory
pub mod Listing
pub mod Inner
pub mod Claims
