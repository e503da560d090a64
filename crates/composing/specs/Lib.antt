-- What a reader has to believe
pub mod Script
pub mod Complaint
pub mod Composed
-- Between the functions
pub mod Passes
