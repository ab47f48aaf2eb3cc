mod Common
pub mod Listed
pub mod Counted
pub mod Wrong
pub mod Searched
pub mod Points
pub mod Ledgers
pub mod Plain
pub mod ValidParts
pub mod Opens
pub mod Alone
pub mod Honest
pub mod Created
pub mod Highest
pub mod Measures
pub mod Resting
pub mod OneFault
pub mod Assembled
pub mod CheckAnswers
pub mod Checked
pub mod Folding
pub mod StayingHonest
mod Refusals
