pub mod ChecksLaws
pub mod Demand1Laws
pub mod EighteenLaws
pub mod ReplayLaws
pub mod ExplainedLaws
pub mod LentLaws
pub mod ScheduleLaws
