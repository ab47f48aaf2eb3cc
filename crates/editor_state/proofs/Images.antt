-- What a studio stands for, and the project that each image keeps.
pub mod ModelBounds
pub mod SameMeaning
pub mod JournalLeads
pub mod RecordLengths
pub mod ImageProjects
