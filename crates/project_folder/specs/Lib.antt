pub mod Counts
pub mod Entries
pub mod Open
pub mod Unsynced
