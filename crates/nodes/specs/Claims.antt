pub mod Nodes
pub mod Longest
