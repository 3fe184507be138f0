pub mod RowNumbers
pub mod Adding
pub mod Going
