mod Common
-- The ids of blocks that nothing names, and their files.
pub mod FreeIds
pub mod FirstIds
pub mod IdRemovals
pub mod UnnamedFiles
pub mod ReclaimLimits
-- The passes of a reclaim.
pub mod FreeFiles
pub mod RemovePass
pub mod SyncPass
pub mod RemoveThenSync
pub mod ForgetPass
-- What a reclaim leaves and answers.
pub mod StudioFiles
pub mod ReclaimAnswers
pub mod ReclaimFaults
-- The journal that a compact puts into one header.
pub mod HeaderPoints
pub mod HeaderSizes
pub mod HeaderJournal
pub mod CompactAnswers
