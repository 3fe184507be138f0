pub mod Flags
pub mod Claims
pub mod Runs
pub mod OneSection
pub mod SectionRuns
pub mod RunClaims
