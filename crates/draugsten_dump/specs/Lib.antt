pub mod Running
pub mod Promises
pub mod Claims
