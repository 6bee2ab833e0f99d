pub mod Answering
pub mod AnswerEnds
pub mod Outcomes
