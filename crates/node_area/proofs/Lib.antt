pub mod Verdicts
pub mod Walks
pub mod Steps
pub mod ReaderClaims
pub mod ReadingCases
