pub mod History
pub mod Calls
pub mod Ram
pub mod Histories
pub mod Images
pub mod Settled
pub mod Index
pub mod ByFile
