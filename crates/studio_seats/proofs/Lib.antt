mod Common
-- The lemmas, lowest first.
pub mod Refused
pub mod TestFaults
pub mod Chains
pub mod FirstSeat
pub mod Grown
pub mod ImportLemmas
pub mod AskLemmas
pub mod Turns
pub mod Lines
pub mod PinSteps
pub mod PinLemmas
pub mod FrameLemmas
pub mod Batches
pub mod PieceLemmas
pub mod MergeLemmas
pub mod FaultLemmas
pub mod OnwardLemmas
pub mod WorkLemmas
pub mod ReadLemmas
pub mod CallLemmas
pub mod LoadLemmas
pub mod FreeingLemmas
pub mod RecordingLemmas
