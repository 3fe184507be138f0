pub mod Area
pub mod Reading
pub mod Cursor
pub mod Claims
