pub mod Puts
pub mod Digits
pub mod Sizes
pub mod Bytes
pub mod NameLaws
