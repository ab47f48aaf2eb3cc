-- The blocks that a studio names and counts, and the pages of them that it keeps.
pub mod NamedBlocks
pub mod BlockNumbers
pub mod BlockLists
pub mod BlockLengths
pub mod BlockSounds
pub mod BlockDamage
pub mod CachePages
