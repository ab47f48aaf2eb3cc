pub mod Moments
pub mod Writes
pub mod Rooms
pub mod Frames
pub mod Buffers
