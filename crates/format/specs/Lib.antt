-- What a reader has to believe
pub mod Format
pub mod Kinds
pub mod Parse
