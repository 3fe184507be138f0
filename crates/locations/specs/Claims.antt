pub mod Locations
