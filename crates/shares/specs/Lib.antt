pub mod Share
pub mod claims
