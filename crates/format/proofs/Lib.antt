pub mod FileLaws
pub mod ParseLaws
