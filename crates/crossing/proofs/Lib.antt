pub mod Records
pub mod Registrations
