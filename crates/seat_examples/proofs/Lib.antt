-- The lemmas, lowest first.
pub mod SeatLemmas
pub mod CallLemmas
