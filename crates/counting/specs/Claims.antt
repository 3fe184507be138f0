pub mod Counts
pub mod CountsCame
pub mod Month
pub mod OfTrace
pub mod Terms
