-- What the contracts cite.
pub mod Recorded
pub mod Played
pub mod IfGiven
pub mod RanLines
