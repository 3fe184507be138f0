pub mod Came
pub mod Trace
pub mod First
pub mod Recording
pub mod Steps
