-- What a reader has to believe
pub mod Advanced
-- How the code does it: the parts of a step
pub mod Parts
-- Laws
pub mod ListLaws
pub mod PartLaws
pub mod Good
pub mod Steps
pub mod Answers
pub mod StepLaws
