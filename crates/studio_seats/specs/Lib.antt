-- What the contracts cite, lowest first.
pub mod Deeds
pub mod Stands
pub mod Holding
pub mod Desks
pub mod Leads
pub mod Imports
pub mod Pins
pub mod PinLaws
pub mod Shows
pub mod Pieces
pub mod Merge
pub mod Onward
pub mod Reads
pub mod Freeing
pub mod Recording
pub mod Faults
