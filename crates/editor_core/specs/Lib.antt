pub mod Core
pub mod Parts
pub mod Facts
pub mod Buffers
pub mod Lines
