pub mod EntryLaws
pub mod TotalLaws
