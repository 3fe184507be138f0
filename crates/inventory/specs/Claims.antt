pub mod Inventory
pub mod Edition
pub mod Records
pub mod Scanning
pub mod Search
pub mod Sound
