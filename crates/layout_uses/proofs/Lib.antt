mod Common
pub mod Times
pub mod Turns
pub mod Layouts
pub mod Listing
pub mod Tracks
pub mod Onward
pub mod Moves
pub mod Histories
pub mod Naming
pub mod Numbers
pub mod Draws
pub mod Putting
pub mod InTurn
pub mod Parts
pub mod Stays
