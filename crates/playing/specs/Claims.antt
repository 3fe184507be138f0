pub mod Lent
pub mod Played
