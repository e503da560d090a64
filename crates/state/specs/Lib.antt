-- What a reader has to believe
pub mod State
pub mod Needed
pub mod Step
pub mod Stepped
pub mod Within
pub mod WellFormed
pub mod Tabled
pub mod Reached
pub mod Counting
pub mod ClockGrowth
-- What an accepted event does
pub mod Follows
pub mod Accepted
-- Counts
pub mod MadeUp
