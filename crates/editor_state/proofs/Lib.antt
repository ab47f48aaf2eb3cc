mod Common
-- What holds of each element of a list, and of a studio over another store.
pub mod Lists
pub mod SameStudios
-- The blocks that a studio names and counts, and the pages of them that it keeps.
pub mod Blocks
-- What a studio stands for, and the project that each image keeps.
pub mod Images
-- What refuses a call, which numbers it says, and what a refusal leaves.
pub mod Refusals
-- What calls leave: of files, of the studio, of a vault, and one after another.
pub mod Calls
