pub mod NulLaws
pub mod Listings
pub mod LookupReadings
pub mod LookupClaims
pub mod Stepping
pub mod ViewClaims
