pub mod Record
pub mod Registration
pub mod Promises
pub mod Claims
