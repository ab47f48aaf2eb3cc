mod Common
-- The plan, and the commit once its blocks are made.
pub mod EditPlans
pub mod EditBodies
pub mod GivenIds
-- What refuses it.
pub mod EditRefusals
pub mod BeforeBlocks
pub mod CarryOrder
-- The step, and what it leaves.
pub mod EditSteps
pub mod EditLasts
pub mod EditClipboard
pub mod EditResults
-- The samples that its command brings.
pub mod KnownSamples
pub mod VaultCuts
