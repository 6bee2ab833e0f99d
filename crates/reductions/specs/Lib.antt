pub mod Answers
pub mod Reductions
