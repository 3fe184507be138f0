pub mod Flat
pub mod Intakes
