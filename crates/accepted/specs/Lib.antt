-- The theorem: our own histories are always accepted.
pub mod Own
-- Laws of the history of a state that was reached.
pub mod OwnLaws
