-- What a reader has to believe
pub mod Tables
-- Laws
pub mod TableLaws
