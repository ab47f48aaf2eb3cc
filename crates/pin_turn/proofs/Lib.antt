-- The lemmas, lowest first.
pub mod Sums
pub mod RuleSteps
pub mod KeepsTurn
pub mod KeepsSplits
pub mod KeepsJoins
pub mod KeepsEnd
pub mod Calls
