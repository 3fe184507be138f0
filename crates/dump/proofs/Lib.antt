pub mod Claims
pub mod StructureLaws
pub mod StructureClaims
pub mod Copies
pub mod Verdicts
