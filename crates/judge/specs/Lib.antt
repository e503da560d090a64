-- How the code does it: the tests of `Tabled` and `WellFormed` in `state`, which a reader has to believe, as they are made
pub mod Scans
-- Laws
pub mod ScanLaws
pub mod TabledLaws
pub mod FreshLaws
pub mod StepLaws
pub mod LoopLaws
