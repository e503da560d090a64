-- What the facts speak of
pub mod Events
pub mod Crowded
pub mod Situations
-- The list of cases, and the statement
pub mod Case
pub mod Facts
