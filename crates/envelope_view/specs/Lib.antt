pub mod Ahead
pub mod Answers
pub mod Halves
pub mod Kept
pub mod Named
pub mod Parts
