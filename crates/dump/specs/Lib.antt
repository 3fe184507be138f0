pub mod Structure
pub mod Registration
pub mod Claims
