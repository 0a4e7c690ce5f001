pub mod FilesLemmas
pub mod ChangeLemmas
pub mod AnswerLemmas
