pub mod Readings
pub mod Told
pub mod Lists
pub mod Called
pub mod Witness
pub mod Claims
