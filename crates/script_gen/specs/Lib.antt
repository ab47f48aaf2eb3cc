pub mod Bounds
pub mod Draws
pub mod Room
pub mod Script
pub mod Validity
