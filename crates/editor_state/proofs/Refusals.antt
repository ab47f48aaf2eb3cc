-- What refuses a call, which numbers it says, and what a refusal leaves.
pub mod Tests
pub mod CommitTests
pub mod CallTests
pub mod DamageTests
pub mod CounterNumbers
pub mod PurgeNumbers
pub mod RefusalEffects
pub mod EarlyRefusals
pub mod VaultRefusals
pub mod IntactFiles
