-- What a reader has to believe
pub mod Figures
-- What the functions inside promise
pub mod Parts
-- What enums of the code stand for
pub mod Replies
-- Laws
pub mod PartLaws
pub mod HistoryLaws
