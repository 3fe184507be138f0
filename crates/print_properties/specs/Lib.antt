pub mod Text
pub mod inner
pub mod claims
