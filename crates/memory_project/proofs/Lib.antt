pub mod RoomLemmas
pub mod FreshLemmas
pub mod OpenLemmas
pub mod LineLemmas
pub mod ScriptLemmas
pub mod EndLemmas
pub mod SumLemmas
pub mod RunLemmas
