mod Common
pub mod ChunkLaws
pub mod BufferLaws
pub mod WrittenLaws
mod HeadLaws
mod WalkLaws
pub mod ChannelLaws
mod SampleLaws
mod ReasonLaws
pub mod GrowLaws
pub mod LessLaws
