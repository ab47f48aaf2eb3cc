pub mod TrackEdits
pub mod Ranges
pub mod Inserts
pub mod Copies
pub mod RunEdits
pub mod Cuts
pub mod Pastes
