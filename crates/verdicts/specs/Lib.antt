-- What a reader has to believe: when an order explains a history, the file, and when each number is given.
pub mod Explains
pub mod File
pub mod Refusals
-- What the contracts cite: the verdict as it is computed; and operations of ours as rows.
pub mod Verdict
pub mod Sized
pub mod Faults
pub mod Rows
pub mod Histories
pub mod Knowing
pub mod Operations
-- Laws: each test tells exactly what its number says.
pub mod Tells
pub mod TimesLaws
