pub mod Section
pub mod Running
pub mod Claims
