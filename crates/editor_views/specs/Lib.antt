pub mod Pins
pub mod Loads
pub mod Scans
