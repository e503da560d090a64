-- What a reader has to believe
pub mod Run
pub mod Turns
pub mod Opening
-- Laws
pub mod EventLaws
