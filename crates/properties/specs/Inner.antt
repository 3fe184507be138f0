pub mod Following
pub mod Terms
pub mod Writing
