-- What a reader has to believe
pub mod Printed
pub mod Written
pub mod Paged
-- How the code does it: digits, and lines over plain numbers
pub mod Digits
pub mod Lines
pub mod Short
-- Laws
pub mod DigitLaws
pub mod LaidLaws
pub mod PagedLaws
pub mod LengthLaws
pub mod LineLaws
pub mod ShortLaws
pub mod WholeLaws
pub mod WrittenLaws
-- What they compute to
pub mod Examples
