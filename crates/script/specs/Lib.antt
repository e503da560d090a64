-- What a reader has to believe
pub mod Lines
pub mod Meaning
pub mod Numbers
pub mod Places
-- Laws
pub mod FigureLaws
pub mod NumberLaws
pub mod ScanLaws
