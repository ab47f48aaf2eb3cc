mod Common
pub mod Once
pub mod Kept
pub mod Formats
pub mod Found
mod Changes
mod Gates
mod Logs
mod Adds
pub mod Together
pub mod Seen
pub mod Packed
pub mod Texts
pub mod Chosen
pub mod AnyFormats
mod Starts
mod Made
pub mod Parses
pub mod Splits
mod RowParts
mod Standing
pub mod Begun
pub mod Headed
mod Padded
pub mod Choices
pub mod Picked
mod Cuts
pub mod ReadOnce
pub mod Readables
pub mod Readings
pub mod FirstReadings
pub mod Headers
pub mod Bases
