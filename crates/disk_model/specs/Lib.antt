pub mod Disk
pub mod Room
pub mod Faults
pub mod Moment
pub mod MomentLaws
pub mod Frames
pub mod Parts
