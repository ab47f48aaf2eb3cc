pub mod Counts
pub mod Tree
pub mod Entries
