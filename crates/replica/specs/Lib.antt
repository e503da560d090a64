-- What a reader has to believe
pub mod Clock
pub mod Ranges
pub mod Gathering
pub mod Answer
pub mod Handlers
pub mod Numbers
-- Laws
pub mod ClockLaws
pub mod RangeLaws
