pub mod Fours
pub mod Bounds
