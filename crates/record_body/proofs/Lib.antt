mod Common
pub mod Parts
pub mod Reaching
pub mod Numbers
pub mod Passing
pub mod Sizes
pub mod Steps
pub mod RowSteps
pub mod ValidBodies
pub mod Spelled
pub mod FieldsBack
pub mod ClipsBack
pub mod TracksBack
pub mod ValidBounds
pub mod ReadBack
pub mod HeaderPoints
pub mod Lengths
pub mod SavedBounds
pub mod SavedOnce
pub mod NewProjects
pub mod Leading
pub mod Batched
pub mod Commons
pub mod Tails
pub mod DiffTracks
pub mod ChangeLaws
pub mod KnownFronts
pub mod ByClips
pub mod Chosen
pub mod Agreeing
pub mod Measured
pub mod DeltaBodies
mod GoodTails
mod ChangesBack
pub mod DiffBack
pub mod DeltaBack
pub mod ShortEnds
pub mod DiffValid
mod ToldAdds
pub mod ToldAlike
pub mod NineBytes
pub mod SaysOnce
pub mod DeltaLengths
pub mod Moved
pub mod Unnumbered
