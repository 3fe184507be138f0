pub mod Head
pub mod Piece
pub mod Reading
pub mod Area
pub mod Claims
pub mod Cases
