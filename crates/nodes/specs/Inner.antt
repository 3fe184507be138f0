pub mod Terms
pub mod Source
pub mod Writing
