pub mod IndexedLaws
pub mod Works
