pub mod HandlerLaws
pub mod AnswerLaws
