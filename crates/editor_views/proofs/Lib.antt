mod Common
-- Cells, the mix, and the list of tracks.
pub mod CellViews
pub mod MixViews
pub mod BufferFronts
pub mod TrackListing
-- Pins.
pub mod PinNumbers
pub mod PinSteps
pub mod UnpinSteps
pub mod PinLoads
pub mod PinReads
pub mod PinRefusals
-- Scans of blocks.
pub mod SortedBlocks
pub mod BlockScans
-- Exports.
pub mod ExportLengths
pub mod ExportSteps
