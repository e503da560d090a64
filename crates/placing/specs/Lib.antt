-- What a reader has to believe: what an operation is, what is promised, and the order of which it is promised.
pub mod Operation
pub mod Sequential
pub mod RealTime
pub mod Sorting
pub mod OneOrder
pub mod Facts
-- Laws of orders, lists and sorting.
pub mod Order
pub mod LexLaws
pub mod Pairs
pub mod Splitting
pub mod SortingLaws
