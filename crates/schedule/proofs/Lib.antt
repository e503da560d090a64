pub mod RunLaws
pub mod BehindLaws
pub mod TurnLaws
pub mod OpeningLaws
pub mod FileLaws
pub mod Examples
