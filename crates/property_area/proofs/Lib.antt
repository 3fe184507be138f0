pub mod Judging
pub mod PropertyLaws
pub mod Written
pub mod ReaderClaims
pub mod Claims
