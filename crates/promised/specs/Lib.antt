-- What a reader has to believe
pub mod Checks
pub mod Demand1
pub mod Lent
pub mod Told
