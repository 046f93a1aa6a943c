pub mod WordLemmas
pub mod AnswerLemmas
