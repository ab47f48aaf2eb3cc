mod Common
-- One block after another.
pub mod BlocksPut
pub mod NextBlock
pub mod BlockCounts
pub mod BlocksWritten
-- Their samples and pieces.
pub mod BroughtSamples
pub mod PieceOrder
pub mod BlockSamples
pub mod PieceBlocks
-- The blocks of plans and layouts.
pub mod PlanBlocks
pub mod LayoutBlocks
-- The studio once they are there, and a commit after them.
pub mod StudioBlocks
pub mod BlockCommits
-- What a fault leaves, and what they ask of the disk.
pub mod BlockFaults
pub mod BlocksLeft
pub mod DiskCalls
pub mod NoDamage
