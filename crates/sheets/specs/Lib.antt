-- What a reader has to believe
pub mod Sheet
pub mod Totals
