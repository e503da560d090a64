pub mod HeadLaws
pub mod LineLaws
pub mod NumberLaws
