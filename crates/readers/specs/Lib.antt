pub mod Readings
pub mod claims
