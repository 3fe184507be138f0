pub mod PropertyArea
pub mod Cursor
pub mod Reader
