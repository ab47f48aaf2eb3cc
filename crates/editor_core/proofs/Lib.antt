mod Common
-- What a studio is made of, a new one, what it counts, keeps and answers.
mod StudioParts
mod KeptPages
mod MoveAnswers
mod Replies
pub mod NewProjects
mod CountedBlocks
mod PointCounts
mod KeptBodies
mod SameUses
