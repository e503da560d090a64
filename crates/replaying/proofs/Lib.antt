pub mod ReplayedLaws
