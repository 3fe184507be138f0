pub mod EntryWords
pub mod NodeWords
pub mod IndexWords
pub mod PropertyWords
pub mod ReaderClaims
