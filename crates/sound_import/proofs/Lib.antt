mod FoundLaws
mod ReaderLaws
pub mod PartsLaws
pub mod SomeLaws
