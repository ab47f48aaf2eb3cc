pub mod Bringers
pub mod Bringing
pub mod Brought
pub mod Making
pub mod Reading
