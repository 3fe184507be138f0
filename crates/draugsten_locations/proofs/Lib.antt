pub mod Crossed
pub mod Promises
