pub mod Dump
pub mod Structure
