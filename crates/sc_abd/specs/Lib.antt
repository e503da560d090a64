-- What a reader has to believe
pub mod Algorithm1
pub mod System
pub mod Same
pub mod Demand2
pub mod Executions
pub mod Named
-- Packets, rows, answers
pub mod Numbering
pub mod Answers
-- Sound and complete
pub mod Allowed
-- Who has replied, and what completes an operation
pub mod Replied
pub mod Completion
pub mod NamedKept
pub mod NamedMoves
pub mod NamedLaws
