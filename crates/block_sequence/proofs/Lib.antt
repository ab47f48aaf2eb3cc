pub mod Appended
pub mod Clip
pub mod Count
pub mod FlatRows
pub mod FromTo
pub mod Fronts
pub mod HalfFull
pub mod Origins
pub mod Out
pub mod Relaid
pub mod Rest
pub mod Room
pub mod Rule
pub mod Sizes
mod Table
pub mod Whole
