pub mod Intake
pub mod States
