pub mod Text
pub mod claims
