pub mod Texts
pub mod Options
pub mod Command
pub mod Bounds
pub mod Words
