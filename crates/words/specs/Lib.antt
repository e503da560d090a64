-- What a reader has to believe
pub mod Limits
pub mod Messages
pub mod Quorum
pub mod Ranges
pub mod Stamps
pub mod Rank
pub mod Refusals
pub mod Stops
-- Laws
pub mod QuorumLaws
pub mod RangeLaws
