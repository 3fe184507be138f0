pub mod Weighing
pub mod Headers
pub mod WeightLaws
pub mod Reaching
pub mod NoteLaws
