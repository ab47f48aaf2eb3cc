-- The lemmas, lowest first.
pub mod MakerLemmas
pub mod PartLemmas
pub mod RejoinLemmas
pub mod ListLemmas
pub mod OpeningLemmas
pub mod RecordedLemmas
pub mod SideLemmas
pub mod SoundLemmas
pub mod SeatLemmas
pub mod EndLemmas
pub mod ClosedLemmas
