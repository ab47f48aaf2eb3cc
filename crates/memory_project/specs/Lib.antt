-- What the contracts cite, lowest first.
pub mod Memory
pub mod Fresh
pub mod Lines
pub mod Sums
