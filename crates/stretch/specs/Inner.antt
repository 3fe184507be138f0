pub mod Terms
pub mod Stretches
