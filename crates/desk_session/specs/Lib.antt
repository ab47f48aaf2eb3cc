-- What the contracts cite, lowest first.
pub mod Makers
pub mod Parts
pub mod Sides
pub mod Opening
pub mod Sounds
pub mod Lent
pub mod Works
pub mod Sat
pub mod Sessions
