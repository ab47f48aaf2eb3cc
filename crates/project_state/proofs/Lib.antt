pub mod KeptTracks
pub mod Points
pub mod Meanings
pub mod MeantHistories
pub mod Plain
