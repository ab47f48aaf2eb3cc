mod Common
pub mod CellCounts
pub mod KeptLists
pub mod Layouts
pub mod RestItems
pub mod RoomClips
pub mod RoomStrips
pub mod RoughStrips
pub mod ShortStrips
pub mod StripClips
pub mod Strips
