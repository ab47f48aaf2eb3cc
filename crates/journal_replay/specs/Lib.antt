pub mod Bases
pub mod Faults
pub mod Heads
pub mod Folds
pub mod Laws
