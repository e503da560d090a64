pub mod FoundLaws
pub mod FullLaws
pub mod GatherLaws
