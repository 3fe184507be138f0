pub mod Parts
pub mod Leaves
pub mod Plays
pub mod Lent
