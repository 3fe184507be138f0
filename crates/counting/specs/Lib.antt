pub mod Area
pub mod Counts
pub mod OfTrace
pub mod CountsCame
pub mod Figures
pub mod Inner
pub mod Claims
pub mod Cases
