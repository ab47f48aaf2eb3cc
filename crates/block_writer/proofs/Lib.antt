pub mod BringLaws
mod ReadLaws
pub mod BroughtLaws
pub mod MadeLaws
