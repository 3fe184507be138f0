pub mod Crossing
pub mod Record
pub mod Registration
pub mod Terms
