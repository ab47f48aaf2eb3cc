mod Trees
mod Covers
mod Rising
mod Lookups
mod Leaves
mod Nexts
pub mod Listed
pub mod Once
mod Searches
pub mod Times
