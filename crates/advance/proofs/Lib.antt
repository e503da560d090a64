pub mod Advances
pub mod TabledLaws
