mod Common
pub mod Said
pub mod Stepping
pub mod Based
pub mod Commits
pub mod HeaderValid
mod Pointed
mod Few
mod Numbered
mod Journals
pub mod Valid
mod Versions
