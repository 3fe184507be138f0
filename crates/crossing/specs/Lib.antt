pub mod Record
pub mod Registration
pub mod Claims
