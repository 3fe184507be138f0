pub mod Record
pub mod Registration
