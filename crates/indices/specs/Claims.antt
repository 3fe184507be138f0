pub mod Bounds
pub mod Indices
pub mod Cursor
pub mod Longest
pub mod OtherCodes
pub mod Reader
pub mod Writing
