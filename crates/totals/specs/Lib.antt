pub mod Adding
pub mod Consistent
pub mod Claims
