pub mod PrintIndices
