pub mod Dumping
pub mod Run
