pub mod Taking
pub mod Bursts
pub mod States
pub mod Inner
pub mod Claims
pub mod Cases
