pub mod Totals
pub mod Consistent
