-- What a reader has to believe: the history file of a bench of ours.
pub mod OwnFile
-- Laws that the code's proofs cite.
pub mod OwnFileLaws
pub mod RecordedLaws
