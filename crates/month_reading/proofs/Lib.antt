pub mod Searches
pub mod Digests
pub mod Turns
pub mod ReadAnswers
pub mod Answered
