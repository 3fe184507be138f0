pub mod TraceCounts
