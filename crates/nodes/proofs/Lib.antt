pub mod Carried
pub mod Runs
pub mod Cut
pub mod Listed
pub mod Writes
pub mod Decoding
pub mod Claims
pub mod Answers
