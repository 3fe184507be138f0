pub mod Readers
pub mod Readings
