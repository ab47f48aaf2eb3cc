mod Common
-- The lemmas, lowest first.
pub mod Sayings
pub mod TurnLemmas
pub mod VaultLemmas
pub mod StretchLemmas
pub mod FileLemmas
pub mod BounceLemmas
pub mod TellLemmas
