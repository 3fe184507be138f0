pub mod Judging
pub mod Located
pub mod Scanning
