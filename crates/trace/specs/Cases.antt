pub mod Session
pub mod Trace
