pub mod Kept
pub mod Rests
pub mod Seen
pub mod Stored
