pub mod Changes
pub mod Joins
pub mod LaidClips
pub mod Placing
pub mod Plans
pub mod Runs
pub mod Strips
pub mod Windows
