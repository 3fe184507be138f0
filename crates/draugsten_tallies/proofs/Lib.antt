pub mod Crossed
pub mod IntakeCrossed
pub mod CutReadings
pub mod Answers
pub mod IntakeTells
pub mod Promises
