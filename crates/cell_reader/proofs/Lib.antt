mod Common
pub mod KeptLaws
pub mod NearLaws
pub mod PartLists
pub mod RestLaws
pub mod SeenLaws
pub mod StoredLaws
