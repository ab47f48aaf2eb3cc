mod Common
pub mod CountLaws
pub mod HeardLaws
pub mod PageLaws
pub mod PlanLaws
pub mod TrackLaws
