mod Common
-- The bytes of records, and their rows.
pub mod BodyBytes
pub mod RecordRows
pub mod RowRoom
pub mod AppendFaults
-- Histories, projects and their tracks.
pub mod HistoryPoints
pub mod PointTags
pub mod TrackChanges
pub mod TrackLists
pub mod CurrentProject
pub mod CursorTracks
-- One commit: what an image has meanwhile, and the studio after it.
pub mod CommitImages
pub mod CommitStudios
pub mod CommitSteps
pub mod CommitFailures
-- Undo, redo and purge.
pub mod HistoryMoves
pub mod MoveSteps
pub mod PurgeToSize
-- Edits that make no blocks.
pub mod PlainLines
pub mod PlainEdits
pub mod CallsWithoutReads
