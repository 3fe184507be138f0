pub mod Terms
pub mod Filling
