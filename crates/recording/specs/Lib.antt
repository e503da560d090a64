-- What a reader has to believe: the history file of a schedule.
pub mod Recording
