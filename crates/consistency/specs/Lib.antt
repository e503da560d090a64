-- What a reader has to believe
pub mod Operations
pub mod Demand3
-- Theory: what processes held, the moves of a run, the invariant
pub mod Unnamed
pub mod Held
pub mod Moves
pub mod MoveLaws
pub mod Sound
-- Theory: the facts that the placing theorem needs
pub mod Entries
