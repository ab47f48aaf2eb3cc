-- What the contracts cite, lowest first.
pub mod Change
pub mod HeldLine
pub mod Calls
pub mod Place
pub mod Answering
pub mod Added
pub mod Served
pub mod Spent
pub mod Progress
