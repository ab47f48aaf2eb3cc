-- What the contracts cite, lowest first.
pub mod Counts
pub mod Views
pub mod Rule
pub mod Calls
