pub mod Boundary
pub mod Feeding
pub mod Sessions
pub mod Month
pub mod WholeTrace
