-- What a reader has to believe
pub mod Shown
