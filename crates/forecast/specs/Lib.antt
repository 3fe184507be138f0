pub mod Forecast
pub mod Claims
pub mod Cases
