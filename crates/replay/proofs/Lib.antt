pub mod Leaves
pub mod Carrying
pub mod Made
pub mod Standings
pub mod Ending
