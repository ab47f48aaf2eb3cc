mod Common
pub mod AheadLaws
pub mod AnswerLaws
pub mod BlockReads
pub mod EdgeLaws
pub mod HalvesLaws
pub mod KeptLaws
pub mod NamedLaws
pub mod Running
pub mod SumLaws
