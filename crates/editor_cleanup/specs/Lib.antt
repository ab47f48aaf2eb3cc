pub mod Passes
pub mod Frees
pub mod Compacts
