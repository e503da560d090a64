-- What a reader has to believe
pub mod Start
pub mod Reply
pub mod Listing
-- Laws
pub mod StartLaws
pub mod TabledUse
