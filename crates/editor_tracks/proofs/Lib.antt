mod Common
-- Calls that edit tracks.
mod EditCalls
-- One track.
pub mod TrackPlans
pub mod TrackSteps
pub mod PlanDamage
pub mod RangeLaws
pub mod InsertLaws
-- A run of tracks.
pub mod RunPlans
pub mod RunMeaning
pub mod RunBlocks
pub mod RunLayouts
pub mod RunKept
pub mod RunLaws
-- Copies.
pub mod CopyStrips
pub mod CopySteps
-- Cuts.
pub mod CutLaws
pub mod CutRefusals
pub mod CutSteps
-- Pastes.
pub mod PasteLaws
pub mod PasteRefusals
pub mod PasteSteps
