-- The tracks of the channels.
pub mod ChannelTests
pub mod ChannelPlans
pub mod SampleOrder
pub mod ProjectGrowth
pub mod ChannelLaws
-- The import as a step.
pub mod ImportRefusals
pub mod ChannelSteps
pub mod HeadChannels
pub mod ShortSounds
