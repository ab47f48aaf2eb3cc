mod Common
pub mod CellLists
pub mod ChangedItems
pub mod Copies
pub mod KeptBlocks
pub mod LaidLists
pub mod Named
pub mod Pastes
pub mod Roomy
mod Rows
pub mod RunLists
pub mod StripCells
pub mod Tame
pub mod TouchingClips
pub mod WindowBlocks
pub mod WindowCells
pub mod WindowEdits
pub mod WindowLayouts
pub mod WindowPlans
