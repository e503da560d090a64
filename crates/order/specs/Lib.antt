-- What a reader has to believe
pub mod Operations
-- A row as a number, its key: what the code computes
pub mod Keys
-- Laws of keys, of points, and of the loops
pub mod DigitLaws
pub mod KeyLaws
pub mod ComputedLaws
pub mod SortMapLaws
pub mod PointKeyLaws
pub mod FillLaws
pub mod PointLaws
pub mod PackLaws
pub mod LoopLaws
pub mod PlaceLaws
