pub mod Terms
pub mod Records
pub mod Registrations
pub mod Crossing
pub mod Promises
