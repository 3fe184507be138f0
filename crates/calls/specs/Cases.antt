pub mod Properties
pub mod Readings
pub mod ReadingRecord
pub mod Witnesses
