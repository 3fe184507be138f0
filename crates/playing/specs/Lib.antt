pub mod Lent
pub mod Played
pub mod Inner
pub mod Claims
