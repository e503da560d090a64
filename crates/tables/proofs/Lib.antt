pub mod Laying
pub mod Seeking
