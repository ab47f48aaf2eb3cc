-- What calls leave: of files, of the studio, of a vault, and one after another.
pub mod OtherFiles
pub mod FileRemovals
pub mod CallPremises
pub mod QuietCalls
pub mod LookCalls
pub mod LookAnswers
pub mod SameStores
pub mod NameChanges
pub mod VaultCalls
pub mod RunEntries
pub mod EventRuns
